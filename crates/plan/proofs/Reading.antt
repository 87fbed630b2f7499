-- The laws of a reading that stand on how a field is read.
use Prim.Native.Nat.{ℕ, zero, suc, ◌+◌, ◌-◌, ◌≤◌, ◌<◌}
use Rattle.std.proofs.Math.Path.{◌≡◌, refl, sym, ap}
use Rattle.std.proofs.Common.{◌∙◌, add-zero, zero-add, take-append-drop, take-take}
use Rattle.std.specs.Prelude.{Bool}
use Rattle.std.proofs.Math.Bool.{true, false}
use mathlib.Core.List.{List, [], ◌∷◌, ◌++◌, append_cancel_left}
use native.Mathlib.Omega.{arith}
use Rattle.std.proofs.Math.ListN.{length, take, drop, length-append}
use Rattle.std.proofs.Math.Seq.{take-append_seam, take-append-add}
use Rattle.std.proofs.Math.Dec.{leb}
use borrow.Author.Tests.{leb-true, leb-false, lt-leb}
use Rattle.plan.specs.Plan.{Plan, Res, ok, stop, run, Takes, no_stop}
use Rattle.plan.specs.Reading.{read, read_nil, read_stop, read_next, Hungry, IsClean, joined, shift, Parsed, none, ends, more, append_at, shift_at, keep, upto, past}
use Rattle.plan.proofs.Plan.{local}

module _ {E A : Type 0} (t : Plan E A) (hungry : Hungry t) where
  parsed_f : (f : ℕ) (s : List ℕ) → length s ≤ f → Parsed t hungry s
  parsed_f zero [] h = none
  parsed_f (suc f) [] h = none
  parsed_f zero (b ∷ s) h = absurd (omega arith)
  parsed_f (suc f) (b ∷ s) h = go (run t (b ∷ s)) refl (λ r. parsed_f f r)
    where
      go : (x : Res E A) → run t (b ∷ s) ≡ x → ((r : List ℕ) → length r ≤ f → Parsed t hungry r) → Parsed t hungry (b ∷ s)
      go (stop e p) ex ih = ends ex
      go (ok a n) ex ih =
          let w = local t (b ∷ s) a n ex in
          let hn : 0 < n = hungry (b ∷ s) a n ex in
          let hl : length (b ∷ s) ≡ length w.u + length w.rest = ap length w.split ∙ length-append w.u w.rest in
          let hu : length w.u ≡ n = w.size in
          rw w.split (more w.u w.takes (ih w.rest (omega arith)))

  pub parsed : (s : List ℕ) → Parsed t hungry s
  parsed s = parsed_f (length s) s (omega arith)

  pub append : (x y : List ℕ) → IsClean (read t 0 x) → read t 0 (x ++ y) ≡ joined (read t 0 x) (shift (length x) (read t 0 y))
  append x y h = rw (← (shift_at t hungry (length x) 0 (parsed y)), add-zero, ← (zero-add (length x))) (append_at t hungry 0 (parsed x) y h)

-- n bytes in common: what one begins with within them the other begins with
common : (n : ℕ) (s s' u r : List ℕ) → take n s ≡ take n s' → s' ≡ u ++ r → length u ≤ n → s ≡ u ++ drop (length u) s
common n s s' u r h e l =
    sym (take-append-drop (length u) s)
    ∙ ap (λ (x : List ℕ). x ++ drop (length u) s) (sym (take-take (length u) n s l) ∙ ap (take (length u)) h ∙ take-take (length u) n s' l ∙ ap (take (length u)) e ∙ take-append_seam u r)

module _ {E A : Type 0} (t : Plan E A) (hungry : Hungry t) where
  quiet : (n at : ℕ) {s : List ℕ} → Parsed t hungry s → ((u r : List ℕ) (a : A) → s ≡ u ++ r → Takes t u a → n < length u) → upto (at + n) (read t at s) ≡ []
  unfolding upto
  quiet n at none h = rw (read_nil t hungry at)
  quiet n at (ends {b} {s} {e} {p} q) h = rw (read_stop t hungry at b s e p q)
  quiet n at (more u {r} {a} tk v) h =
      let hu : n < length u = h u r a refl tk in
      rw (read_next t hungry at u r a tk, lt-leb (at + length u) (at + n) (omega arith)) (past t hungry (at + n) (at + length u) v (omega arith))

  -- s has no batch within its first n bytes
  Silent : ℕ → List ℕ → Type 0
  Silent n s = (u r : List ℕ) (a : A) → s ≡ u ++ r → Takes t u a → n < length u

  same_silence : (n : ℕ) (s s' : List ℕ) → take n s ≡ take n s' → Silent n s → Silent n s'
  unfolding Silent
  same_silence n s s' h q u r a e tk = go (leb (length u) n) refl
    where
      go : (b : Bool) → leb (length u) n ≡ b → n < length u
      go true eb = q u (drop (length u) s) a (common n s s' u r h e (leb-true (length u) n eb)) tk
      go false eb = leb-false (length u) n eb

  both_quiet : (n at : ℕ) (s s' : List ℕ) → take n s ≡ take n s' → Silent n s → upto (at + n) (read t at s) ≡ upto (at + n) (read t at s')
  unfolding Silent
  both_quiet n at s s' h q = quiet n at (parsed t hungry s) q ∙ sym (quiet n at (parsed t hungry s') (same_silence n s s' h q))

  pub agree_at : (n at : ℕ) {s : List ℕ} → Parsed t hungry s → (s' : List ℕ) → take n s ≡ take n s' → upto (at + n) (read t at s) ≡ upto (at + n) (read t at s')
  unfolding upto Silent
  agree_at n at none s' h = both_quiet n at [] s' h (λ u r a e tk.
      let hu : 0 < length u = hungry (u ++ r) a (length u) (tk r) in
      let hl : 0 ≡ length u + length r = ap length e ∙ length-append u r in
      omega arith)
  agree_at n at (ends {b} {s} {e} {p} q) s' h = both_quiet n at (b ∷ s) s' h (λ u r a e tk. absurd (no_stop (sym q ∙ ap (run t) e ∙ tk r)))
  agree_at n at (more u {r} {a} tk v) s' h = go (leb (length u) n) refl (λ m r' h'. agree_at m (at + length u) v r' h')
    where
      go : (b : Bool) → leb (length u) n ≡ b
          → ((m : ℕ) (r' : List ℕ) → take m r ≡ take m r' → upto (at + length u + m) (read t (at + length u) r) ≡ upto (at + length u + m) (read t (at + length u) r'))
          → upto (at + n) (read t at (u ++ r)) ≡ upto (at + n) (read t at s')
      go false eb ih = both_quiet n at (u ++ r) s' h (λ u' r' a' e tk'.
          let x : ◌≡◌ {A = Res E A} (ok a (length u)) (ok a' (length u')) = sym (tk r) ∙ ap (run t) e ∙ tk' r' in
          let y : length u ≡ length u' = cc in
          let z : n < length u = leb-false (length u) n eb in
          omega arith)
      go true eb ih =
          let l : length u ≤ n = leb-true (length u) n eb in
          let m = n - length u in
          let en : n ≡ length u + m = omega arith in
          let e' : s' ≡ u ++ drop (length u) s' = common n s' (u ++ r) u r (sym h) refl l in
          let h' : take (length u + m) (u ++ r) ≡ take (length u + m) (u ++ drop (length u) s') = rw (← en, ← e') h in
          let h'' : take m r ≡ take m (drop (length u) s') = append_cancel_left u (take m r) (take m (drop (length u) s')) (rw (take-append-add u r m, take-append-add u (drop (length u) s') m) at h') in
          let e₂ : at + length u + m ≡ at + n = omega arith in
          ap (upto (at + n)) (read_next t hungry at u r a tk)
          ∙ ap (keep (leb (at + length u) (at + n)) (a, at, at + length u)) (rw e₂ at (ih m (drop (length u) s') h''))
          ∙ sym (ap (λ (x : List ℕ). upto (at + n) (read t at x)) e' ∙ ap (upto (at + n)) (read_next t hungry at u (drop (length u) s') a tk))

  pub agree : (n : ℕ) (s s' : List ℕ) → take n s ≡ take n s' → upto n (read t 0 s) ≡ upto n (read t 0 s')
  agree n s s' h = rw (zero-add n) at (agree_at n 0 (parsed t hungry s) s' h)
