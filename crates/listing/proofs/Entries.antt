-- The line of an entry, by cases on the decoder's answer. Assumes nothing.
use Prim.Native.Nat.{ℕ, suc, ◌+◌, ◌-◌, ◌≤◌, ◌<◌}
use mathlib.Core.Path.{◌≡◌, refl, sym, ap, ap₂, ◌∙◌}
use mathlib.Core.Logic.{◌≢◌}
use mathlib.Core.List.{List, []}
use Rattle.std.specs.Prelude.{Result, Ok, Err}
use native.Mathlib.Omega.{arith}
use lib.ListN.{length, take, drop}
use Rattle.plan.specs.Plan.{Res, ok, stop, run_at}
use Rattle.plan.specs.Ends.{within}
use Rattle.dialect.specs.declared.Dialect.{Dialect}
use Rattle.entry.specs.declared.Decoded.{Decoded}
use Rattle.entry.specs.declared.Decoded.TheVariants.{Start, Item, End, Clear}
use Rattle.entry.specs.declared.Fault.{Fault}
use Rattle.entry.specs.Entry.{Put, item, clear, Entry, start, body, end, Stop, entry}
use Rattle.entry.specs.Decoded.{shown}
use Rattle.entry.proofs.Exact.{ItemAt, exact_of}
use Rattle.text.specs.Written.{Begins}
use Rattle.listing.specs.Listing.{entry_line}
use Rattle.listing.specs.Walk.{line_of, next_of, lines_at}

-- neither an Item nor a Clear: no line, and on from the same place
pub record Blank (d : Dialect) (at : ℕ) (x : Res Stop Entry) : Type 0 where
  pub line : line_of d x ≡ []
  pub goes : at ≡ next_of at x

-- an Item or a Clear p, up to j
pub record Shown (d : Dialect) (at : ℕ) (p : Put) (j : ℕ) (x : Res Stop Entry) : Type 0 where
  pub line : entry_line d p ≡ line_of d x
  pub goes : j ≡ next_of at x

-- what an answer to x says: an Item's key ends where its value begins, and that where the Item ends
unfoldable pub Tells : Dialect → List ℕ → ℕ → Result Decoded Fault → Res Stop Entry → Type 0
Tells d s at (Ok (Start c q j)) x = Blank d at x
Tells d s at (Ok (Item ty ks ka kl va vl j)) x = Shown d at (item ty ks (take (va - ka) (drop ka s)) (take (j - va) (drop va s))) j x × (ka ≤ va) × (va ≤ j) × (j ≤ length s)
Tells d s at (Ok (End c j)) x = Blank d at x
Tells d s at (Ok (Clear ks j)) x = Shown d at (clear ks) j x
Tells d s at (Err f) x = Blank d at x

module _ (d : Dialect) (s : List ℕ) (at : ℕ) where
  all_tell : at ≤ length s → (x : Res Stop Entry) → run_at (entry d) s at ≡ x → Tells d s at (shown x) x
  unfolding Tells line_of next_of
  all_tell h (ok (start c q) j) e = record { line = refl; goes = refl }
  all_tell h (ok (body (clear ks)) j) e = record { line = refl; goes = refl }
  all_tell h (ok (end c) j) e = record { line = refl; goes = refl }
  all_tell h (stop y p) e = record { line = refl; goes = refl }
  all_tell h (ok (body (item ty ks key val)) j) e =
      let w : ItemAt s at key val j = exact_of d s at h (ok (body (item ty ks key val)) j) e in
      let g : j ≡ at + 21 + length key + length val = w.ends in
      let ka : j - length val - length key ≡ at + 21 = omega arith in
      let va : j - length val ≡ at + 21 + length key = omega arith in
      let kl : j - length val - (j - length val - length key) ≡ length key = omega arith in
      let vl : j - (j - length val) ≡ length val = omega arith in
      let key_is : take (j - length val - (j - length val - length key)) (drop (j - length val - length key) s) ≡ key = ap₂ (λ (n p : ℕ). take n (drop p s)) kl ka ∙ sym w.key_stands in
      let val_is : take (j - (j - length val)) (drop (j - length val) s) ≡ val = ap₂ (λ (n p : ℕ). take n (drop p s)) vl va ∙ sym w.value_stands in
      (record { line = ap₂ (λ (k v : List ℕ). entry_line d (item ty ks k v)) key_is val_is; goes = refl }, omega arith, omega arith, w.fits)

  pub tells : at ≤ length s → (e : Result Decoded Fault) → e ≡ shown (run_at (entry d) s at) → Tells d s at e (run_at (entry d) s at)
  tells h e q = rw q (all_tell h (run_at (entry d) s at) refl)

  -- the answer that the code has got is none of an entry
  pub of_fault : {f : Fault} → at ≤ length s → Err f ≡ shown (run_at (entry d) s at) → Blank d at (run_at (entry d) s at)
  unfolding Tells
  of_fault h q = tells h _ q

  -- or of one that has no line
  pub of_other : (e : Decoded) → at ≤ length s → Ok e ≡ shown (run_at (entry d) s at) → ((ty ks ka kl va vl j : ℕ) → e ≢ Item ty ks ka kl va vl j) → ((ks j : ℕ) → e ≢ Clear ks j)
      → Blank d at (run_at (entry d) s at)
  unfolding Tells
  of_other e h q i l = go e (tells h (Ok e) q) i l
    where
      go : (e : Decoded) → Tells d s at (Ok e) (run_at (entry d) s at) → ((ty ks ka kl va vl j : ℕ) → e ≢ Item ty ks ka kl va vl j) → ((ks j : ℕ) → e ≢ Clear ks j) → Blank d at (run_at (entry d) s at)
      go (Start c q j) w i l = w
      go (Item ty ks ka kl va vl j) w i l = absurd (i ty ks ka kl va vl j refl)
      go (End c j) w i l = w
      go (Clear ks j) w i l = absurd (l ks j refl)

  -- or of an Item
  pub of_item : {ty ks ka kl va vl j : ℕ} → at ≤ length s → Ok (Item ty ks ka kl va vl j) ≡ shown (run_at (entry d) s at)
      → Shown d at (item ty ks (take (va - ka) (drop ka s)) (take (j - va) (drop va s))) j (run_at (entry d) s at) × (ka ≤ va) × (va ≤ j) × (j ≤ length s)
  unfolding Tells
  of_item h q = tells h _ q

  -- or of a Clear
  pub of_clear : {ks j : ℕ} → at ≤ length s → Ok (Clear ks j) ≡ shown (run_at (entry d) s at) → Shown d at (clear ks) j (run_at (entry d) s at)
  unfolding Tells
  of_clear h q = tells h _ q

  -- one entry of a body, the kth of count, and those behind it
  pub lines_more : (count k : ℕ) → k < count → Begins (lines_at d s (count - k) at) (line_of d (run_at (entry d) s at)) (lines_at d s (count - (k + 1)) (next_of at (run_at (entry d) s at)))
  unfolding lines_at
  lines_more count k h = let e : count - k ≡ suc (count - (k + 1)) = omega arith in record { split = ap (λ (left : ℕ). lines_at d s left at) e }

  pub no_lines : (left : ℕ) → left ≡ 0 → lines_at d s left at ≡ []
  unfolding lines_at
  no_lines left e = rw e

  pub next_within : at ≤ length s → next_of at (run_at (entry d) s at) ≤ length s
  next_within h = go (run_at (entry d) s at) refl
    where
      go : (x : Res Stop Entry) → run_at (entry d) s at ≡ x → next_of at x ≤ length s
      go (ok (start c q) j) e = unfold next_of in h
      go (ok (body p) j) e = unfold next_of in within (entry d) s at (body p) j h e
      go (ok (end c) j) e = unfold next_of in h
      go (stop y p) e = unfold next_of in h
