-- The public call: refused, or the listing over the front. Assumes nothing.
use Rattle.std.specs.Prelude.{ℕ, ◌+◌, ◌≤◌, ◌≡◌, refl, true, List, ◌++◌, length, drop, Result, Ok, Err, ⊤}
use Rattle.std.proofs.Common.{sym, ap, ◌∙◌, arith, length-append, ltb-false}
use Rattle.number.specs.Limit.{limit}
use Rattle.dialect.specs.declared.Dialect.{Dialect}
use Rattle.dialect.specs.Dialect.{good}
use Rattle.dialect.specs.Laws.{is_true}
use Rattle.refusal.specs.declared.Refusal.{Refusal}
use Rattle.refusal.specs.Laws.{first_ok, when_ok}
use Rattle.encode.specs.Encoding.{settled}
use Rattle.number.specs.Part.{front}
use Rattle.text.specs.declared.Page.{Page}
use Rattle.text.specs.Written.{Written, filled}
use Rattle.listing.specs.Listing.{journal_line, listing, room_for, list_refusal, listed}
use Rattle.listing.specs.Walk.{lines_from}
use Rattle.listing.proofs.Sizes.{listing_bound}

-- the listing in its two parts, as the code puts them
pub parts : (d : Dialect) (s : List ℕ) → journal_line (length s) ++ lines_from d s 0 ≡ listing d s
unfolding listing lines_from
parts d s = refl

-- a call that is not refused
pub record Free (d : Dialect) (s out : List ℕ) : Type 0 where
  pub fine : good d ≡ true
  pub short : length s ≤ limit
  pub room : length (journal_line (length s)) + length (lines_from d s 0) ≤ length out

module _ (d : Dialect) (s out : List ℕ) where
  pub free : list_refusal d (length s) (length out) ≡ Ok tt → Free d s out
  unfolding list_refusal
  free h =
      let p = first_ok _ _ h in
      let q = first_ok _ _ p.1 in
      let n : length s ≤ 65_536 = ltb-false 65_536 (length s) (when_ok _ _ q.0) in
      let m : room_for (length s) ≤ length out = ltb-false (length out) (room_for (length s)) (when_ok _ _ q.1) in
      let b : length (listing d s) ≤ room_for (length s) = listing_bound d s in
      let e : length (journal_line (length s)) + length (lines_from d s 0) ≡ length (listing d s) = sym (length-append (journal_line (length s)) (lines_from d s 0)) ∙ ap length (parts d s) in
      record { fine = is_true (good d) (when_ok _ _ p.0); short = omega arith; room = omega arith }

  pub wrote : (p q : Page) → list_refusal d (length s) (length out) ≡ Ok tt → p.out.now ≡ out → p.at ≡ 0 → Written (listing d s) p q
      → (Ok q.at ≡ (listed d s out).answer) × (q.out.now ≡ (listed d s out).buffer)
  unfolding listed
  wrote p q h e z w =
      let f : q.out.now ≡ front (listing d s) out = rw e at (filled z w) in
      let n : q.at ≡ length (listing d s) = let c = w.count in omega arith in
      rw h (ap Ok n, f)

  -- for callers: what was written is within the buffer
  pub wrote_within : (ys : List ℕ) (k : ℕ) → Ok k ≡ (listed d s out).answer → ys ≡ (listed d s out).buffer → k ≤ length ys
  unfolding listed
  wrote_within ys k a b = go (list_refusal d (length s) (length out)) a b
    where
      go : (r : Result ⊤ Refusal) → Ok k ≡ (settled r (listing d s) out).answer → ys ≡ (settled r (listing d s) out).buffer → k ≤ length ys
      go (Ok u) a b =
          let e : k ≡ length (listing d s) = cc in
          let m : length ys ≡ length (listing d s) + length (drop (length (listing d s)) out) = ap length b ∙ length-append (listing d s) (drop (length (listing d s)) out) in
          omega arith
      go (Err r) a b = absurd (cc)
