-- What the public calls answer, for every state and piece, and the streaming theorem in their words.
use Rattle.std.specs.Prelude.{ℕ, ◌+◌, ◌≤◌, ◌≡◌, refl, cond, List, [], ◌∷◌, ◌++◌, length, leb, ltb, Result, Ok, Err}
use Rattle.std.proofs.Common.{sym, ap, ◌∙◌, zero-add, arith, length-append, le-leb, le-ltb}
use Rattle.number.specs.Limit.{limit}
use Rattle.xxh3.specs.Xxh3.{default_secret, hash}
use Rattle.refusal.specs.declared.Refusal.{Refusal}
use Rattle.refusal.specs.declared.Refusal.TheVariants.{TooLong, State}
use Rattle.refusal.specs.Refusal.{when_of, given}
use Rattle.xxh3.specs.Hashed.{hashed}
use Rattle.stream.specs.declared.Hasher.{Hasher}
use Rattle.stream.specs.declared.Absorbed.{Absorbed}
use Rattle.stream.specs.Stream.{absorbs, absorbs_all, joined, ends, fresh}
use Rattle.stream.specs.Laws.{absorbs_joined, absorbs_total}
use Rattle.stream.specs.Streaming.{streamed_all}

-- 21 TOO LONG, and the state as it came, where the total after the piece would exceed 4,294,967,295
unfoldable pub absorbed : Hasher → List ℕ → Absorbed
absorbed h p = cond (leb (h.total + length p) limit) (record { answer = Ok tt; state = absorbs default_secret h p }) (record { answer = Err TooLong; state = h })

-- the number of an answer: 22 where the state's total exceeds 4,294,967,295
unfoldable pub bad_total : ℕ → ℕ
bad_total n = cond (leb n limit) 0 22

unfoldable pub finished : Hasher → Result ℕ Refusal
finished h = given (when_of (ltb limit h.total) State) (ends default_secret h)

-- call after call, each with the state that the one before it gave
unfoldable pub fed : Hasher → List (List ℕ) → Hasher
fed h [] = h
fed h (p ∷ ps) = fed (absorbed h p).state ps

-- ---- the theorem

taken : (h : Hasher) (p : List ℕ) → h.total + length p ≤ limit → (absorbed h p).state ≡ absorbs default_secret h p
unfolding absorbed
taken h p l = rw (le-leb (h.total + length p) limit l)

fed_all : (h : Hasher) (ps : List (List ℕ)) → h.total + length (joined ps) ≤ limit → fed h ps ≡ absorbs_all default_secret h ps
unfolding fed absorbs_all joined
fed_all h [] l = refl
fed_all h (p ∷ ps) l =
    let e : length (p ++ joined ps) ≡ length p + length (joined ps) = length-append p (joined ps) in
    let t : (absorbs default_secret h p).total ≡ h.total + length p = absorbs_total default_secret h p in
    ap (λ (g : Hasher). fed g ps) (taken h p (omega arith)) ∙ fed_all (absorbs default_secret h p) ps (omega arith)

finished_sum : (h : Hasher) → h.total ≤ limit → finished h ≡ Ok (ends default_secret h)
unfolding finished
finished_sum h l = rw (le-ltb limit h.total l)

hashed_sum : (s : List ℕ) → length s ≤ limit → hashed s ≡ Ok (hash default_secret s)
unfolding hashed
hashed_sum s l = rw (le-ltb limit (length s) l)

-- Finishing after any pieces in any cut answers what the one-shot call answers for the pieces joined.
pub streaming : (ps : List (List ℕ)) → length (joined ps) ≤ limit → finished (fed fresh ps) ≡ hashed (joined ps)
streaming ps l =
    let g : Hasher = absorbs_all default_secret fresh ps in
    let t : (absorbs default_secret fresh (joined ps)).total ≡ 0 + length (joined ps) = absorbs_total default_secret fresh (joined ps) in
    let n : g.total ≡ length (joined ps) = ap (λ (h : Hasher). h.total) (absorbs_joined default_secret fresh ps) ∙ t ∙ zero-add (length (joined ps)) in
    ap finished (fed_all fresh ps (omega arith)) ∙ finished_sum g (omega arith) ∙ ap Ok (streamed_all default_secret ps) ∙ sym (hashed_sum (joined ps) l)
