-- What the proofs of encoders, and of their callers, cite.
use Rattle.std.specs.Prelude.{ℕ, ◌+◌, ◌≤◌, ◌≡◌, refl, Bool, true, false, List, [], length, Result, Ok, Err}
use Rattle.std.proofs.Common.{sym, ap, ◌∙◌, ltb-false, length-append}
use Rattle.number.specs.Limit.{limit}
use Rattle.dialect.specs.declared.Dialect.{Dialect}
use Rattle.dialect.specs.Dialect.{good}
use Rattle.dialect.specs.Good.{is_good}
use Rattle.dialect.specs.Asked.{buffer_refusal}
use Rattle.dialect.specs.Laws.{buffer_ok}
use Rattle.refusal.specs.declared.Refusal.{Refusal}
use Rattle.refusal.specs.declared.Refusal.TheVariants.{Key}
use Rattle.refusal.specs.Refusal.{when_of}
use Rattle.refusal.specs.Laws.{first_ok, when_ok}
use Rattle.entry.specs.Entry.{Entry, end, start_row, joined, put}
use Rattle.number.specs.Part.{front}
use Rattle.number.specs.Laws.{length_bytes}
use Rattle.plan.specs.Plan.{puts}
use Rattle.entry.specs.Sizes.{end_size}
use Rattle.encode.specs.Encoding.{encode_refusal, key_too_long, encoded}

-- a Start, under any dialect
pub start_row_size : (count seqno : ℕ) → length (joined (start_row count seqno)) ≡ 13
unfolding puts
start_row_size count seqno = simp (length-append, length_bytes)

-- an End under a good dialect
pub end_length : (d : Dialect) (checksum : ℕ) → good d ≡ true → length (put d (end checksum) []) ≡ 9 + d.length
end_length d checksum g = end_size d checksum ∙ ap (λ (n : ℕ). 9 + n) (is_good d g).size

-- what is known where nothing is refused
pub record Room (d : Dialect) (len : ℕ) (wrong : Bool) (size : ℕ) : Type 0 where
  pub fine : good d ≡ true
  pub short : len ≤ limit
  pub right : wrong ≡ false
  pub room : size ≤ len

pub encode_ok : (d : Dialect) (len : ℕ) (wrong : Bool) (size : ℕ) → encode_refusal d len wrong size ≡ Ok tt → Room d len wrong size
unfolding encode_refusal
encode_ok d len wrong size e =
    let b = first_ok (buffer_refusal d len) _ e in
    let f = buffer_ok d len b.0 in
    let k = first_ok (when_of wrong Key) _ b.1 in
    record { fine = f.fine; short = f.short; right = when_ok wrong _ k.0; room = ltb-false len size (when_ok _ _ k.1) }

-- the size matters only under a good dialect
pub good_size : (d : Dialect) (len : ℕ) (wrong : Bool) (size other : ℕ) → (good d ≡ true → size ≡ other) → encode_refusal d len wrong size ≡ encode_refusal d len wrong other
unfolding encode_refusal buffer_refusal
good_size d len wrong size other h = go (good d) refl
  where
    go : (g : Bool) → good d ≡ g → encode_refusal d len wrong size ≡ encode_refusal d len wrong other
    go true e = rw (h e)
    go false e = rw e

-- an encoder of e that was lent xs and found the refusal r, taking e to have `size` bytes
pub refused : (d : Dialect) (e : Entry) (xs : List ℕ) (r : Refusal) (size : ℕ) → encode_refusal d (length xs) (key_too_long e) size ≡ Err r → (good d ≡ true → length (put d e []) ≡ size)
    → (◌≡◌ {A = Result ℕ Refusal} (Err r) (encoded d e xs).answer) × (xs ≡ (encoded d e xs).buffer)
refused d e xs r size f l = rw (good_size d (length xs) (key_too_long e) (length (put d e [])) size l, f) (refl, refl)

-- and one that found none
pub wrote : (d : Dialect) (e : Entry) (xs zs : List ℕ) (size : ℕ) → encode_refusal d (length xs) (key_too_long e) size ≡ Ok tt → (good d ≡ true → length (put d e []) ≡ size) → zs ≡ front (put d e []) xs
    → (◌≡◌ {A = Result ℕ Refusal} (Ok size) (encoded d e xs).answer) × (zs ≡ (encoded d e xs).buffer)
wrote d e xs zs size f l b =
    let g : good d ≡ true = (encode_ok d (length xs) (key_too_long e) size f).fine in
    rw (good_size d (length xs) (key_too_long e) (length (put d e [])) size l, f) (ap Ok (sym (l g)), b)
