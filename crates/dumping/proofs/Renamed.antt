-- A result whose error was given another type holds the value that it held.
use Rattle.std.specs.Prelude.{Result, Ok, Err, MatchResult, IfOk, IsErrAnd, ◌≡◌}
use Rattle.std.proofs.Common.{subst, sym, ap, ◌∙◌}
use Rattle.std.proofs.lemmas.Result.{MatchResult-at_ok}

value_or : {T F : Type 0} → T → Result T F → T
value_or d (Ok x) = x
value_or d (Err e) = d

was_ok : {T E F : Type 0} (r : Result T E) (r' : Result T F) (Q : E → F → Type 0) (x : T) → MatchResult r (λ y. r' ≡ Ok y) (λ e. IsErrAnd r' (Q e)) → r' ≡ Ok x → r ≡ Ok x
unfolding value_or
was_ok (Ok y) r' Q x same is = ap Ok (ap (value_or y) (sym same ∙ is))
was_ok (Err e) r' Q x same is = absurd (subst (λ q. IsErrAnd q (Q e)) is same)

pub at_ok : {T E F : Type 0} (P : T → Type 0) (Q : E → F → Type 0) (r : Result T E) (r' : Result T F) (x : T) → MatchResult r (λ y. r' ≡ Ok y) (λ e. IsErrAnd r' (Q e)) → r' ≡ Ok x → IfOk r P → P x
at_ok P Q r r' x same is = MatchResult-at_ok P (λ _. Unit {0}) x (was_ok r r' Q x same is)

pub if_ok : {T E F : Type 0} (P : T → Type 0) (Q : E → F → Type 0) (r : Result T E) (r' : Result T F) → MatchResult r (λ y. r' ≡ Ok y) (λ e. IsErrAnd r' (Q e)) → IfOk r P → IfOk r' P
if_ok P Q (Ok x) r' same h = subst (λ q. IfOk q P) (sym same) h
if_ok P Q (Err e) (Ok x) same h = absurd same
if_ok P Q (Err e) (Err f) same h = tt
