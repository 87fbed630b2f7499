-- What the listing's call answered is what the dump prints, and what is behind the longest journal changes nothing.
use Rattle.std.proofs.Common.{◌≡◌, ℕ, ◌+◌, ◌*◌, ◌≤◌, ◌<◌, Bool, true, false, not, List, ◌++◌, Option, None, Some, IfSome, length, take, drop, refl, sym, ap, ◌∙◌, arith, ltb, lt-ltb, le-ltb, append-nil, subst, length-append, length-take-le, take_at}
use borrow.Author.Tests.{ltb-true, ltb-false}
use Rattle.std.specs.Io.KnownBytes.{Appends, Consumes, IsAtEnd}
use Rattle.dialect.specs.declared.Dialect.{Dialect}
use Rattle.dialect.specs.Dialect.{good}
use Rattle.std.specs.Prelude.{Result, Ok, Err, ⊤}
use Rattle.refusal.specs.declared.Refusal.{Refusal}
use Rattle.refusal.specs.declared.Refusal.TheVariants as refusal
use Rattle.refusal.specs.Refusal.{when_of, first_of}
use Rattle.encode.specs.Encoding.{settled}
use Rattle.listing.specs.Listing.{list_refusal, listing, listed}
use Rattle.dumping.specs.Dumping.{dump_refusal, refused_line, said, printed_over, dumped}

-- where there is room for the longest journal's listing, the listing's call refuses what the dump refuses
room_enough : (d : Dialect) (n : ℕ) → list_refusal d n 262_272 ≡ dump_refusal d n
unfolding list_refusal dump_refusal
room_enough d n = ap (first_of (when_of (not (good d)) refusal.Dialect)) (go (ltb 65_536 n) refl)
  where
    go : (b : Bool) → ltb 65_536 n ≡ b → first_of (when_of b refusal.TooLong) (when_of (ltb 262_272 (4 * n + 128)) refusal.NoRoom) ≡ when_of b refusal.TooLong
    go true e = refl
    go false e = let h : n ≤ 65_536 = ltb-false 65_536 n e in rw (le-ltb 262_272 (4 * n + 128) (omega arith)) refl

-- what is printed with that much room is what the dump prints
pub with_room : (d : Dialect) (s : List ℕ) (room : ℕ) → room ≡ 262_272 → printed_over d s room ≡ dumped d s
unfolding printed_over dumped
with_room d s room e = ap (λ r. said r (listing d s)) (ap (list_refusal d (length s)) e ∙ room_enough d (length s))

module _ (d : Dialect) (s out : List ℕ) where
  pub wrote_over : (ys : List ℕ) (k : ℕ) → Ok k ≡ (listed d s out).answer → ys ≡ (listed d s out).buffer → take k ys ≡ printed_over d s (length out)
  unfolding listed printed_over said
  wrote_over ys k a b = go (list_refusal d (length s) (length out)) refl a b
    where
      go : (r : Result ⊤ Refusal) → list_refusal d (length s) (length out) ≡ r → Ok k ≡ (settled r (listing d s) out).answer → ys ≡ (settled r (listing d s) out).buffer → take k ys ≡ said (list_refusal d (length s) (length out)) (listing d s)
      go (Ok u) e a b =
          let k_is : k ≡ length (listing d s) = cc in
          rw (e, b) (take_at (listing d s) (drop (length (listing d s)) out) k (sym k_is))
      go (Err r) e a b = absurd (cc)

  pub refused_over : (r : Refusal) → Err r ≡ (listed d s out).answer → refused_line r ≡ printed_over d s (length out)
  unfolding listed printed_over said
  refused_over r a = go (list_refusal d (length s) (length out)) refl a
    where
      go : (q : Result ⊤ Refusal) → list_refusal d (length s) (length out) ≡ q → Err r ≡ (settled q (listing d s) out).answer → refused_line r ≡ said (list_refusal d (length s) (length out)) (listing d s)
      go (Ok u) e a = absurd (cc)
      go (Err q) e a = let r_is : r ≡ q = cc in rw (e, r_is) refl

-- with room for any listing these are what the dump prints
module _ (d : Dialect) (s out : List ℕ) (room : length out ≡ 262_272) where
  pub wrote_dump : (ys : List ℕ) (k : ℕ) → Ok k ≡ (listed d s out).answer → ys ≡ (listed d s out).buffer → take k ys ≡ dumped d s
  wrote_dump ys k a b = wrote_over d s out ys k a b ∙ with_room d s (length out) room

  pub refused_dump : (r : Refusal) → Err r ≡ (listed d s out).answer → refused_line r ≡ dumped d s
  refused_dump r a = refused_over d s out r a ∙ with_room d s (length out) room

-- a front above 65,536 bytes is refused as the whole is
pub front_refused : (d : Dialect) (s t : List ℕ) → 65_536 < length s → dumped d s ≡ dumped d (s ++ t)
unfolding dumped dump_refusal said
front_refused d s t h =
    rw (lt-ltb 65_536 (length s) h, lt-ltb 65_536 (length (s ++ t)) (omega (arith, length-append s t))) (go (not (good d)))
  where
    go : (b : Bool) → said (first_of (when_of b refusal.Dialect) (when_of true refusal.TooLong)) (listing d s) ≡ said (first_of (when_of b refusal.Dialect) (when_of true refusal.TooLong)) (listing d (s ++ t))
    go true = refl
    go false = refl

-- What was read is all that the reader had, or more than may be listed: what was printed of it is what the dump prints of all.
pub whole_dump : (d : Dialect) (had left held holds : Option (List ℕ)) (n : ℕ) (image : List ℕ) → length image ≡ 65_537 → n ≤ length image → Consumes had left (take n image) → (n < length image → IsAtEnd left)
    → Appends held holds (dumped d (take n image)) → IfSome had (λ s. Appends held holds (dumped d s))
whole_dump d None left held holds n image room within consumed ended appended = tt
whole_dump d (Some s) None held holds n image room within consumed ended appended = absurd consumed
whole_dump d (Some s) (Some t) held holds n image room within consumed ended appended = subst (λ (bs : List ℕ). Appends held holds bs) (go (ltb n (length image)) refl) appended
  where
    go : (b : Bool) → ltb n (length image) ≡ b → dumped d (take n image) ≡ dumped d s
    go true e = ap (dumped d) (sym (consumed ∙ ap (λ (l : List ℕ). take n image ++ l) (ended (ltb-true n (length image) e)) ∙ append-nil (take n image)))
    go false e =
        let all : length image ≤ n = ltb-false n (length image) e in
        front_refused d (take n image) t (omega (arith, length-take-le n image within)) ∙ ap (dumped d) (sym consumed)
