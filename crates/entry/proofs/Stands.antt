-- An entry of a body that stands in the image as it would be encoded anew.
use Prim.Native.Nat.{ℕ, zero, suc, ◌+◌, ◌-◌, ◌≤◌}
use mathlib.Core.Path.{◌≡◌, refl, sym, ap, ◌∙◌}
use mathlib.Core.List.{List, [], ◌∷◌, ◌++◌}
use native.Mathlib.Omega.{arith}
use lib.ListN.{length, take, drop, get_or, length-append}
use lib.Seq.{take-add, drop-drop, drop-cons}
use borrow.Author.Tests.{eqb-true}
use Rattle.number.specs.Number.{le, bytes}
use Rattle.number.specs.Laws.{Octets, le_part, length_bytes, bytes_le}
use Rattle.plan.specs.Plan.{Res, ok, stop, puts, run_at}
use Rattle.plan.specs.Steps.{Meets, in_done, in_halt, in_need, byte_at, length_at}
use Rattle.dialect.specs.declared.Dialect.{Dialect}
use Rattle.entry.specs.Entry.{Put, item, clear, Entry, start, body, end, Stop, item_row, clear_row, joined, layout, put, start_plan, clear_plan, pair_plan, lengths_plan, item_plan, end_plan, tagged, entry}
use Rattle.entry.specs.Sizes.{item_size, clear_size}
use Rattle.entry.proofs.Exact.{ItemAt, exact_of}

module _ (s : List ℕ) where
  -- fields that stand one behind another from a position on
  data Row : ℕ → List (List ℕ) → Type 0 where
    none : {at : ℕ} → Row at []
    next : {at : ℕ} {f : List ℕ} {fs : List (List ℕ)} (n : ℕ) → length f ≡ n → f ≡ take n (drop at s) → Row (at + n) fs → Row at (f ∷ fs)

  row_joined : (at : ℕ) (fs : List (List ℕ)) → Row at fs → joined fs ≡ take (length (joined fs)) (drop at s)
  unfolding puts
  row_joined at [] none = refl
  row_joined at (f ∷ fs) (next n l e r) =
      let m = length (joined fs) in
      rw (length-append f (joined fs), l, take-add n m (drop at s), drop-drop n at s, ← e) (ap (λ (x : List ℕ). f ++ x) (row_joined (at + n) fs r))

  front_byte : (at b : ℕ) → at + 1 ≤ length s → b ≡ get_or s at 0 → b ∷ [] ≡ take 1 (drop at s)
  front_byte at b h e = rw (drop-cons s at 0 (omega arith), e)

  byte_row : {at b : ℕ} {fs : List (List ℕ)} → at + 1 ≤ length s → b ≡ get_or s at 0 → Row (at + 1) fs → Row at ((b ∷ []) ∷ fs)
  byte_row {at} {b} h e r = next {at = at} 1 refl (front_byte at b h e) r

  number_row : {at : ℕ} (n : ℕ) {x : ℕ} {fs : List (List ℕ)} → Octets s → at + n ≤ length s → x ≡ le n s at → Row (at + n) fs → Row at (bytes n x ∷ fs)
  number_row {at} n {x} o h e r = next n (length_bytes n x) (ap (bytes n) e ∙ bytes_le n s at o h) r

  part_length : (at n : ℕ) → at + n ≤ length s → length (take n (drop at s)) ≡ n
  part_length at n h = length_at s at n (omega arith)

  part_row : {at : ℕ} (n : ℕ) {fs : List (List ℕ)} → at + n ≤ length s → Row (at + n) fs → Row at (take n (drop at s) ∷ fs)
  part_row {at} n h r = next n (part_length at n h) refl r

-- the fields of what stands at a position, if the elements of the image are bytes and the two lengths of an Item agree
abbrev Fields : Dialect → List ℕ → ℕ → Res Stop Entry → Type 0
Fields d s at (ok (start c q) j) = Unit {0}
Fields d s at (ok (body (item ty ks key val)) j) = le 4 s (at + 13) ≡ length val → Row s at (item_row ty d.none ks key val)
Fields d s at (ok (body (clear ks)) j) = Row s at (clear_row ks)
Fields d s at (ok (end c) j) = Unit {0}
Fields d s at (stop e p) = Unit {0}

module _ (d : Dialect) (s : List ℕ) (o : Octets s) (at : ℕ) (h : at ≤ length s) where
  tagged_fields : (t : ℕ) → t ≡ get_or s at 0 → at + 1 ≤ length s → Meets (Fields d s at) (tagged d t) s (at + 1)
  unfolding tagged start_plan clear_plan pair_plan lengths_plan item_plan end_plan
  tagged_fields zero e l = in_halt tt
  tagged_fields (suc zero) e l = in_need l tt tt (λ h₁ _. in_need h₁ tt tt (λ h₂ _. in_done tt))
  tagged_fields (suc (suc zero)) e l =
      in_need l tt tt (λ h₁ _. in_need h₁ tt tt (λ h₂ g. in_need h₂ tt tt (λ h₃ _. in_need h₃ tt tt (λ h₄ _.
      in_need h₄ tt tt (λ h₅ _. in_need h₅ tt tt (λ h₆ _. in_need h₆ tt tt (λ h₇ _. in_need h₇ tt tt (λ h₈ _.
      in_done (λ same.
      byte_row s l e (byte_row s h₁ (byte_at s _) (byte_row s h₂ (sym (eqb-true _ _ g) ∙ byte_at s _)
      (number_row s 8 o h₃ (le_part 8 s _)
      (number_row s 2 o h₄ (part_length s _ _ h₇ ∙ le_part 2 s _)
      (number_row s 4 o h₅ (sym same ∙ ap (le 4 s) (omega arith))
      (number_row s 4 o h₆ (part_length s _ _ h₈ ∙ le_part 4 s _)
      (part_row s _ h₇ (part_row s _ h₈ none)))))))))))))))))
  tagged_fields (suc (suc (suc zero))) e l = in_need l tt tt (λ h₁ _. in_need h₁ tt tt (λ h₂ _. in_done tt))
  tagged_fields (suc (suc (suc (suc zero)))) e l = in_need l tt tt (λ h₁ _. in_done (byte_row s l e (number_row s 8 o h₁ (le_part 8 s _) none)))
  tagged_fields (suc (suc (suc (suc (suc n))))) e l = in_halt tt

  fields : Meets (Fields d s at) (entry d) s at
  unfolding entry
  fields = in_need h tt tt (λ h₁ _. tagged_fields _ (byte_at s at) h₁)

  fields_of : (x : Res Stop Entry) → run_at (entry d) s at ≡ x → Fields d s at x
  fields_of x e = rw (← e) fields.meets

-- the value length that an Item announces is that of its value; a Clear has none
abbrev pub Stands : List ℕ → ℕ → Put → Type 0
Stands s at (item ty ks key val) = le 4 s (at + 13) ≡ length val
Stands s at (clear ks) = Unit {0}

pub stands : (d : Dialect) (s : List ℕ) → Octets s → (at : ℕ) → at ≤ length s → (p : Put) (j : ℕ) → run_at (entry d) s at ≡ ok (body p) j → Stands s at p
    → put d (body p) [] ≡ take (j - at) (drop at s)
unfolding layout
stands d s o at h (item ty ks key val) j e same =
    let w : ItemAt s at key val j = exact_of d s at h (ok (body (item ty ks key val)) j) e in
    let g : j ≡ at + 21 + length key + length val = w.ends in
    let z : length (put d (body (item ty ks key val)) []) ≡ j - at = item_size d ty ks key val ∙ omega arith in
    row_joined s at _ (fields_of d s o at h (ok (body (item ty ks key val)) j) e same) ∙ ap (λ (n : ℕ). take n (drop at s)) z
stands d s o at h (clear ks) j e same =
    let w = exact_of d s at h (ok (body (clear ks)) j) e in
    let g : j ≡ at + 9 = w.0 in
    let z : length (put d (body (clear ks)) []) ≡ j - at = clear_size d ks ∙ omega arith in
    row_joined s at _ (fields_of d s o at h (ok (body (clear ks)) j) e) ∙ ap (λ (n : ℕ). take n (drop at s)) z
