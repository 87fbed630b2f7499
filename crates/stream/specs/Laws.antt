-- Laws of absorbing: nothing, a byte, a join, and the total.
use Rattle.std.specs.Prelude.{ℕ, ◌+◌, ◌≡◌, refl, List, [], ◌∷◌, ◌++◌, length}
use Rattle.std.proofs.Common.{sym, ap, ◌∙◌, add-zero, arith}
use Rattle.stream.specs.declared.Hasher.{Hasher}
use Rattle.stream.specs.Stream.{absorb1, absorbs, absorbs_all, joined}

pub absorbs_none : (k : List ℕ) (h : Hasher) → absorbs k h [] ≡ h
unfolding absorbs
absorbs_none k h = refl

pub absorbs_cons : (k : List ℕ) (h : Hasher) (b : ℕ) (bs : List ℕ) → absorbs k h (b ∷ bs) ≡ absorbs k (absorb1 k h b) bs
unfolding absorbs
absorbs_cons k h b bs = refl

-- absorbing a join is absorbing one after the other
pub absorbs_append : (k : List ℕ) (h : Hasher) (x y : List ℕ) → absorbs k h (x ++ y) ≡ absorbs k (absorbs k h x) y
absorbs_append k h [] y = ap (λ (g : Hasher). absorbs k g y) (sym (absorbs_none k h))
absorbs_append k h (b ∷ x) y = absorbs_cons k h b (x ++ y) ∙ absorbs_append k (absorb1 k h b) x y ∙ ap (λ (g : Hasher). absorbs k g y) (sym (absorbs_cons k h b x))

-- the same for pieces in any cut
pub absorbs_joined : (k : List ℕ) (h : Hasher) (ps : List (List ℕ)) → absorbs_all k h ps ≡ absorbs k h (joined ps)
unfolding absorbs_all joined
absorbs_joined k h [] = sym (absorbs_none k h)
absorbs_joined k h (p ∷ ps) = absorbs_joined k (absorbs k h p) ps ∙ sym (absorbs_append k h p (joined ps))

absorb1_total : (k : List ℕ) (h : Hasher) (b : ℕ) → (absorb1 k h b).total ≡ h.total + 1
unfolding absorb1
absorb1_total k h b = refl

pub absorbs_total : (k : List ℕ) (h : Hasher) (p : List ℕ) → (absorbs k h p).total ≡ h.total + length p
absorbs_total k h [] = ap (λ (g : Hasher). g.total) (absorbs_none k h) ∙ sym (add-zero h.total)
absorbs_total k h (b ∷ p) =
    ap (λ (g : Hasher). g.total) (absorbs_cons k h b p) ∙ absorbs_total k (absorb1 k h b) p ∙ ap (λ (n : ℕ). n + length p) (absorb1_total k h b) ∙ omega arith
