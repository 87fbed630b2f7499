-- The laws of a plan at a position that stand on how a field is read.
use Rattle.std.specs.Prelude.{ℕ, ◌+◌, ◌<◌, ◌≡◌, length, drop}
use Rattle.std.proofs.Math.Path.{refl, sym, ap}
use Rattle.std.proofs.Common.{◌∙◌, arith, drop_at}
use mathlib.Core.List.{List}
use Rattle.std.proofs.Math.Seq.{drop-drop}
use Rattle.plan.specs.Plan.{Plan, Res, ok, stop, later, bind, run, run_at, no_stop}
use Rattle.plan.specs.Reading.{broken, next, read, read_next, Hungry}
use Rattle.plan.specs.Place.{cont, run_bind, at_stop, at_run}
use Rattle.plan.proofs.Plan.{local}

module _ {E A B : Type 0} (f : A → Plan E B) where
  module _ (t : Plan E A) (s : List ℕ) (p : ℕ) where
    -- the batch reader's loop: an entry is read at p, and the plan goes on behind it
    pub bind_ok : (a : A) (n : ℕ) → run t (drop p s) ≡ ok a n → run (bind t f) (drop p s) ≡ later n (run (f a) (drop (p + n) s))
    unfolding cont
    bind_ok a n e = rw (run_bind f t (drop p s), e, drop-drop n p s)

    pub bind_stop : (x : E) (q : ℕ) → run t (drop p s) ≡ stop x q → run (bind t f) (drop p s) ≡ stop x q
    unfolding cont
    bind_stop x q e = rw (run_bind f t (drop p s), e)

module _ {E A : Type 0} (t : Plan E A) (hungry : Hungry t) (s : List ℕ) (p : ℕ) where
  -- reading on from position p of the image s
  pub at_batch : (a : A) (n : ℕ) → run t (drop p s) ≡ ok a n → read t p (drop p s) ≡ next a p (p + n) (read t (p + n) (drop (p + n) s))
  at_batch a n e =
      let w = local t (drop p s) a n e in
      let hr : w.rest ≡ drop (p + n) s = sym (drop_at w.u w.rest n w.size) ∙ ap (drop n) (sym w.split) ∙ drop-drop n p s in
      ap (read t p) w.split ∙ read_next t hungry p w.u w.rest a w.takes
      ∙ ap (λ (m : ℕ). next a p (p + m) (read t (p + m) w.rest)) w.size ∙ ap (λ (r : List ℕ). next a p (p + n) (read t (p + n) r)) hr

-- the caller's loop over an image, by absolute positions
module _ {E A : Type 0} (t : Plan E A) (hungry : Hungry t) (s : List ℕ) (p : ℕ) where
  pub turn_batch : (a : A) (j : ℕ) → run_at t s p ≡ ok a j → read t p (drop p s) ≡ next a p j (read t j (drop j s))
  turn_batch a j e = go (run t (drop p s)) refl (sym (at_run t s p) ∙ e)
    where
      go : (x : Res E A) → run t (drop p s) ≡ x → later p (run t (drop p s)) ≡ ok a j → read t p (drop p s) ≡ next a p j (read t j (drop j s))
      go (ok b n) ex l =
          let l' : ◌≡◌ {A = Res E A} (ok b (p + n)) (ok a j) = rw ex at l in
          let eb : b ≡ a = cc in
          let ej : p + n ≡ j = cc in
          at_batch t hungry s p b n ex ∙ rw (eb, ej)
      go (stop x q) ex l = absurd (no_stop (rw ex at l))

  pub turn_stop : p < length s → (e : E) (q : ℕ) → run_at t s p ≡ stop e q → read t p (drop p s) ≡ broken e p q
  turn_stop h e q r = go (run t (drop p s)) refl (sym (at_run t s p) ∙ r)
    where
      go : (x : Res E A) → run t (drop p s) ≡ x → later p (run t (drop p s)) ≡ stop e q → read t p (drop p s) ≡ broken e p q
      go (ok b n) ex l = absurd (no_stop (sym (rw ex at l)))
      go (stop x n) ex l =
          let l' : ◌≡◌ {A = Res E A} (stop x (p + n)) (stop e q) = rw ex at l in
          let ee : x ≡ e = cc in
          let eq : p + n ≡ q = cc in
          at_stop t hungry s p h x n ex ∙ rw (ee, eq)

  -- a hungry plan goes on
  pub further : (a : A) (j : ℕ) → run_at t s p ≡ ok a j → p < j
  further a j e = go (run t (drop p s)) refl (sym (at_run t s p) ∙ e)
    where
      go : (x : Res E A) → run t (drop p s) ≡ x → later p (run t (drop p s)) ≡ ok a j → p < j
      go (ok b n) ex l =
          let l' : ◌≡◌ {A = Res E A} (ok b (p + n)) (ok a j) = rw ex at l in
          let ej : p + n ≡ j = cc in
          let hn : 0 < n = hungry (drop p s) b n ex in
          omega arith
      go (stop x q) ex l = absurd (no_stop (rw ex at l))
