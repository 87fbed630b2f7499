-- What a plan makes of bytes that are cut and followed by zeros: the laws that stand on how a field is read.
use Rattle.std.specs.Prelude.{ℕ, ◌+◌, ◌-◌, ◌≤◌, ◌<◌, ◌≡◌, Bool, length, take, drop}
use Rattle.std.proofs.Math.Path.{refl}
use Rattle.std.proofs.Common.{sym, ap, ◌∙◌, arith, length-append, length-take-le, leb-true, leb-false}
use Rattle.std.proofs.Math.Bool.{true, false}
use mathlib.Core.List.{List, [], ◌∷◌, ◌++◌, append_assoc}
use Rattle.std.proofs.lemmas.List.{take-append-le}
use Rattle.std.proofs.Math.Seq.{take-append-add}
use Rattle.std.proofs.Math.Dec.{leb}
use Rattle.plan.specs.Plan.{Plan, done, halt, need, run, puts, path}
use Rattle.plan.specs.Cut.{zeros, split_inj, split_zeros, pad, TornRes, Dead, Cuts, torn_need, CutPath}

module _ {E A : Type 0} (Torn : E → Type 0) where
  module _ (n : ℕ) (short bad : E) (good : List ℕ → Bool) (k : List ℕ → Plan E A) (hs : Torn short) (hb : Torn bad) where
    pub dead_need : (good (zeros n) ≡ true → Dead Torn (k (zeros n))) → Dead Torn (need n short bad good k)
    dead_need h z = torn_need Torn n short bad good k hs hb (zeros z) go
      where
        go : (u r : List ℕ) → zeros z ≡ u ++ r → length u ≡ n → good u ≡ true → TornRes Torn (run (k u) r)
        go u r e l g =
            let q = split_zeros [] z u r e (omega arith) in
            let hn : length u - 0 ≡ n = omega arith in
            let hu : u ≡ zeros n = q.0 ∙ ap zeros hn in
            rw (hu, q.1) (h (rw hu at g) (length r))

    pub cuts_need : (v w : List ℕ) → length v ≡ n → ((j : ℕ) → j < n → good (pad j v) ≡ true → Dead Torn (k (pad j v))) → Cuts Torn (k v) w → Cuts Torn (need n short bad good k) (v ++ w)
    cuts_need v w lv hd hc j z hj = torn_need Torn n short bad good k hs hb (take j (v ++ w) ++ zeros z) (go (leb n j) refl)
      where
        go : (b : Bool) → leb n j ≡ b → (u r : List ℕ) → take j (v ++ w) ++ zeros z ≡ u ++ r → length u ≡ n → good u ≡ true → TornRes Torn (run (k u) r)
        go true eb u r e l g =
            let hn : n ≤ j = leb-true n j eb in
            let i = j - n in
            let ej : j ≡ length v + i = omega arith in
            let ht : take j (v ++ w) ≡ v ++ take i w = ap (λ (x : ℕ). take x (v ++ w)) ej ∙ take-append-add v w i in
            let he : v ++ (take i w ++ zeros z) ≡ u ++ r = sym (append_assoc v (take i w) (zeros z)) ∙ ap (λ (x : List ℕ). x ++ zeros z) (sym ht) ∙ e in
            let q = split_inj v u (take i w ++ zeros z) r he (lv ∙ sym l) in
            rw (← q.0, ← q.1) (hc i z (let x : j < length v + length w = rw (length-append v w) at hj in omega arith))
        go false eb u r e l g =
            let hn : j < n = leb-false n j eb in
            let ht : take j (v ++ w) ≡ take j v = take-append-le j v w (omega arith) in
            let hx : length (take j v) ≡ j = length-take-le j v (omega arith) in
            let q = split_zeros (take j v) z u r (ap (λ (x : List ℕ). x ++ zeros z) (sym ht) ∙ e) (omega arith) in
            let hp : length u - length (take j v) ≡ length v - j = omega arith in
            let hu : u ≡ pad j v = q.0 ∙ ap (λ (x : ℕ). take j v ++ zeros x) hp in
            rw (hu, q.1) (hd j hn (rw hu at g) (length r))

  pub cuts_path : (t : Plan E A) (vs : List (List ℕ)) (w : List ℕ) → CutPath Torn t vs → Cuts Torn (path t vs) w → Cuts Torn t (puts vs w)
  unfolding path CutPath puts
  cuts_path t [] w h c = c
  cuts_path (done b) (v ∷ vs) w h c = absurd h
  cuts_path (halt e) (v ∷ vs) w h c = absurd h
  cuts_path (need n short bad good f) (v ∷ vs) w h c =
      cuts_need n short bad good f h.0 h.1 v (puts vs w) h.2 h.3 (cuts_path (f v) vs w h.4 c)
