-- What a state stands for that takes in an input piece by piece, and what comes of it at the input's end and at a refusal.
use Rattle.std.proofs.Common.{◌≡◌, ℕ, ◌+◌, ◌-◌, ◌≤◌, ◌<◌, sym, ap, ◌∙◌, arith, List, [], ◌∷◌, ◌++◌, length, Option, None, Some, IfSome, length-append, append-nil, le-leb, le-ltb, lt-ltb}
use Rattle.std.specs.Prelude.{Result, Ok, Err}
use Rattle.std.proofs.lemmas.Bool.{lt-leb}
use Rattle.std.proofs.Math.Decide.{dec_le}
use Rattle.std.specs.Io.KnownBytes.{Consumes, IsAtEnd}
use Rattle.std.proofs.KnownBytes.{Consumes-nil, Consumes-trans}
use Rattle.number.specs.Limit.{limit}
use Rattle.xxh3.specs.Xxh3.{default_secret}
use Rattle.refusal.specs.declared.Refusal.{Refusal}
use Rattle.refusal.specs.declared.Refusal.TheVariants.{TooLong}
use Rattle.xxh3.specs.Hashed.{hashed}
use Rattle.stream.specs.declared.Absorbed.{Absorbed}
use Rattle.stream.specs.declared.Hasher.{Hasher}
use Rattle.stream.specs.Stream.{fresh, absorbs}
use Rattle.stream.specs.Laws.{absorbs_none, absorbs_append, absorbs_total}
use Rattle.stream.specs.Streaming.{streamed}
use Rattle.stream.specs.Calls.{absorbed, finished}

-- a reader that had the bytes `before` has `after` left, and the state has taken in what it gave
pub record StandsFor (before after : Option (List ℕ)) (state : Hasher) : Type 0 where
  pub seen : List ℕ
  pub consumed : Consumes before after seen
  pub taken : state ≡ absorbs default_secret fresh seen
  pub within : length seen ≤ limit

pub at_start : (before : Option (List ℕ)) (state : Hasher) → state ≡ fresh → StandsFor before before state
at_start before state e = record { seen = []; consumed = Consumes-nil before; taken = e ∙ sym (absorbs_none default_secret fresh); within = omega arith }

pub total : {before after : Option (List ℕ)} {state : Hasher} → (h : StandsFor before after state) → state.total ≡ length h.seen
total h = ap (λ (s : Hasher). s.total) h.taken ∙ absorbs_total default_secret fresh h.seen ∙ omega arith

-- ---- a piece

answer_is : {a b : Absorbed} → a ≡ b → a.answer ≡ b.answer
answer_is e = ap (λ (x : Absorbed). x.answer) e

state_is : {a b : Absorbed} → a ≡ b → a.state ≡ b.state
state_is e = ap (λ (x : Absorbed). x.state) e

fits : (h : Hasher) (p : List ℕ) → h.total + length p ≤ limit → absorbed h p ≡ record { answer = Ok tt; state = absorbs default_secret h p }
unfolding absorbed
fits h p l = rw (le-leb (h.total + length p) limit l)

too_many : (h : Hasher) (p : List ℕ) → limit < h.total + length p → absorbed h p ≡ record { answer = Err TooLong; state = h }
unfolding absorbed
too_many h p l = rw (lt-leb (h.total + length p) limit l)

accepts : (h : Hasher) (p : List ℕ) → (absorbed h p).answer ≡ Ok tt → h.total + length p ≤ limit
accepts h p z = go (dec_le (h.total + length p) limit)
  where
    go : Dec (h.total + length p ≤ limit) → h.total + length p ≤ limit
    go (yes l) = l
    go (no f) = let e = answer_is (too_many h p (omega arith)) in absurd (cc)

refuses : (h : Hasher) (p : List ℕ) (r : Refusal) → (absorbed h p).answer ≡ Err r → limit < h.total + length p
refuses h p r z = go (dec_le (h.total + length p) limit)
  where
    go : Dec (h.total + length p ≤ limit) → limit < h.total + length p
    go (yes l) = let e = answer_is (fits h p l) in absurd (cc)
    go (no f) = omega arith

module _ (before mid after : Option (List ℕ)) (state next : Hasher) (p : List ℕ) (h : StandsFor before mid state) (given : Consumes mid after p) (says : (absorbed state p).answer ≡ Ok tt) where
  pub more : next ≡ (absorbed state p).state → StandsFor before after next
  more e =
      let l : state.total + length p ≤ limit = accepts state p says in
      let t : state.total ≡ length h.seen = total h in
      record {
        seen = h.seen ++ p;
        consumed = Consumes-trans before mid after h.seen p h.consumed given;
        taken = e ∙ state_is (fits state p l) ∙ ap (λ (s : Hasher). absorbs default_secret s p) h.taken ∙ sym (absorbs_append default_secret fresh h.seen p);
        within = omega (arith, length-append h.seen p);
      }

  pub nears : next ≡ (absorbed state p).state → 0 < length p → limit - next.total < limit - state.total
  nears e l =
      let m : state.total + length p ≤ limit = accepts state p says in
      let t : next.total ≡ state.total + length p = ap (λ (s : Hasher). s.total) (e ∙ state_is (fits state p m)) ∙ absorbs_total default_secret state p in
      omega arith

-- ---- what is answered

finishes : (s : List ℕ) → length s ≤ limit → finished (absorbs default_secret fresh s) ≡ hashed s
unfolding finished hashed
finishes s l =
    let t : (absorbs default_secret fresh s).total ≡ 0 + length s = absorbs_total default_secret fresh s in
    rw (le-ltb limit (absorbs default_secret fresh s).total (omega arith), le-ltb limit (length s) l) (ap Ok (streamed default_secret s))

is_too_long : (s : List ℕ) → limit < length s → Err TooLong ≡ hashed s
unfolding hashed
is_too_long s l = rw (lt-ltb limit (length s) l)

pub at_end : (before mid after : Option (List ℕ)) (state : Hasher) (p : List ℕ) (answer : Result ℕ Refusal) → StandsFor before mid state → Consumes mid after p → length p ≡ 0 → IsAtEnd after → answer ≡ finished state → IfSome before (λ bytes. answer ≡ hashed bytes)
at_end None mid after state p answer h c z e says = tt
at_end (Some xs) None after state p answer h c z e says = absurd h.consumed
at_end (Some xs) (Some ys) None state p answer h c z e says = absurd c
at_end (Some xs) (Some ys) (Some zs) state [] answer h c z e says =
    let all : xs ≡ h.seen = h.consumed ∙ ap (λ r. h.seen ++ r) (c ∙ e) ∙ append-nil h.seen in
    says ∙ ap finished h.taken ∙ finishes h.seen h.within ∙ ap hashed (sym all)
at_end (Some xs) (Some ys) (Some zs) state (b ∷ p) answer h c z e says = absurd (omega arith)

pub at_refusal : (before mid after : Option (List ℕ)) (state : Hasher) (p : List ℕ) (r : Refusal) → StandsFor before mid state → Consumes mid after p → (absorbed state p).answer ≡ Err r → IfSome before (λ bytes. Err r ≡ hashed bytes)
at_refusal None mid after state p r h c says = tt
at_refusal (Some xs) None after state p r h c says = absurd h.consumed
at_refusal (Some xs) (Some ys) None state p r h c says = absurd c
at_refusal (Some xs) (Some ys) (Some zs) state p r h c says =
    let l : limit < state.total + length p = refuses state p r says in
    let t : state.total ≡ length h.seen = total h in
    let all : xs ≡ h.seen ++ (p ++ zs) = h.consumed ∙ ap (λ z. h.seen ++ z) c in
    let long : limit < length xs = omega (arith, ap length all, length-append h.seen (p ++ zs), length-append p zs) in
    let e = answer_is (too_many state p l) in
    let r_is : r ≡ TooLong = cc in
    ap Err r_is ∙ is_too_long xs long
