-- What a plan takes and accepts: the laws of specs/Plan that stand on how a field is read.
use Rattle.std.specs.Prelude.{ℕ, ◌+◌, ◌≡◌, Bool, drop}
use Rattle.std.proofs.Math.Path.{refl}
use Rattle.std.proofs.Common.{take-append-drop, leb-true}
use Rattle.std.proofs.Math.Bool.{true, false}
use mathlib.Core.List.{List, [], ◌∷◌, ◌++◌, append_assoc}
use Rattle.std.proofs.Math.ListN.{length, take, length-append}
use Rattle.std.proofs.Math.Seq.{length-take-le}
use Rattle.std.proofs.Math.Dec.{leb}
use Rattle.plan.specs.Plan.{puts, Plan, done, halt, need, Res, ok, stop, later, pick, run, run_need, Takes, Took, path, OnPath, no_stop}

module _ {E A : Type 0} where
  pub takes_need : (n : ℕ) (short bad : E) (good : List ℕ → Bool) (k : List ℕ → Plan E A) (v u : List ℕ) (a : A) → length v ≡ n → good v ≡ true
      → Takes (k v) u a → Takes (need n short bad good k) (v ++ u) a
  takes_need n short bad good k v u a h g t r = rw (append_assoc v u r, run_need n short bad good k v (u ++ r) h g, t r, length-append v u, h)

  pub takes_path : (t : Plan E A) (vs : List (List ℕ)) (w : List ℕ) (a : A) → OnPath t vs → Takes (path t vs) w a → Takes t (puts vs w) a
  unfolding path OnPath puts
  takes_path t [] w a h k = k
  takes_path (done b) (v ∷ vs) w a h k = absurd h
  takes_path (halt e) (v ∷ vs) w a h k = absurd h
  takes_path (need n short bad good f) (v ∷ vs) w a h k = takes_need n short bad good f v (puts vs w) a h.0 h.1 (takes_path (f v) vs w a h.2 k)

  -- what a plan accepts, it accepts by the bytes it took
  pub local : (t : Plan E A) (s : List ℕ) (a : A) (n : ℕ) → run t s ≡ ok a n → Took t s a n
  unfolding run
  local (done b) s a n e = record { u = []; rest = s; split = refl; size = cc; takes = λ r. cc }
  local (halt x) s a n e = absurd (no_stop e)
  local (need m short bad good k) s a n e =
      go (leb m (length s)) refl (good (take m s)) refl (run (k (take m s)) (drop m s)) refl e (local (k (take m s)) (drop m s))
    where
      go : (b : Bool) → leb m (length s) ≡ b → (g : Bool) → good (take m s) ≡ g → (x : Res E A) → run (k (take m s)) (drop m s) ≡ x
          → pick b (pick g (later m x) (stop bad 0)) (stop short 0) ≡ ok a n
          → ((a' : A) (n' : ℕ) → run (k (take m s)) (drop m s) ≡ ok a' n' → Took (k (take m s)) (drop m s) a' n') → Took (need m short bad good k) s a n
      go false eb g eg x ex e ih = absurd (no_stop e)
      go true eb false eg x ex e ih = absurd (no_stop e)
      go true eb true eg (stop x p) ex e ih = absurd (no_stop e)
      go true eb true eg (ok a' n') ex e ih =
          let hm : length (take m s) ≡ m = length-take-le m s (leb-true m (length s) eb) in
          let ea : a' ≡ a = cc in
          let en : m + n' ≡ n = cc in
          let w = ih a n' (rw ea at ex) in
          record {
            u = take m s ++ w.u;
            rest = w.rest;
            split = rw (append_assoc, ← w.split, take-append-drop);
            size = rw (length-append, hm, w.size, en);
            takes = takes_need m short bad good k (take m s) w.u a hm eg w.takes;
          }
