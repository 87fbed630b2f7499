-- The entries of an accepted batch stand one behind another between its Start and its End. Assumes nothing.
use Prim.Native.Nat.{ℕ, zero, suc, ◌+◌, ◌≤◌}
use Rattle.std.specs.Prelude.{◌≡◌, Bool, eqb}
use Rattle.std.proofs.Math.Path.{refl, sym, ap}
use Rattle.std.proofs.Common.{◌∙◌}
use Rattle.std.proofs.Math.Bool.{true, false}
use mathlib.Core.List.{List, [], ◌∷◌, ◌++◌, append_assoc, append-nil}
use Rattle.std.proofs.Math.ListN.{length}
use Rattle.plan.specs.Plan.{Res, ok, stop, bind, run_at, no_stop}
use Rattle.plan.specs.Place.{cont, at_bind}
use Rattle.plan.specs.Ends.{within}
use Rattle.dialect.specs.declared.Dialect.{Dialect}
use Rattle.dialect.specs.Dialect.{trailer}
use Rattle.entry.specs.Entry.{Put, Entry, start, body, end, Stop, entry, hashed}
use Rattle.entry.proofs.Exact.{exact_of}
use Rattle.reader.specs.Batch.{batch, checked, judge, open_batch, batch_plan}

-- ps, from `at` up to `stop`
unfoldable pub Body : Dialect → List ℕ → ℕ → List Put → ℕ → Type 0
Body d s at [] e = at ≡ e
Body d s at (p ∷ ps) e = (j : ℕ) × (run_at (entry d) s at ≡ ok (body p) j) × Body d s j ps e

module _ (d : Dialect) (s : List ℕ) where
  -- what is left of an accepted batch at `at`, where it has read `done` and `left` are to come
  record Rest (count seqno left : ℕ) (done : List Put) (at c q : ℕ) (ps : List Put) (j : ℕ) : Type 0 where
    pub more : List Put
    pub all : ps ≡ done ++ more
    pub counted : length more ≡ left
    pub same_count : c ≡ count
    pub same_seqno : q ≡ seqno
    pub over : ℕ
    pub entries : Body d s at more over
    pub behind : over + 9 + length (trailer d) ≡ j

  module _ (h : List ℕ → ℕ) where
    rest_of : (count seqno left : ℕ) (done : List Put) (at c q : ℕ) (ps : List Put) (j : ℕ) → at ≤ length s
        → run_at (bind (entry d) (judge d h count seqno left done)) s at ≡ ok (batch c q ps) j → Rest count seqno left done at c q ps j
    unfolding Body cont judge run_at
    rest_of count seqno zero done at c q ps j k e = go (run_at (entry d) s at) refl (sym (at_bind (judge d h count seqno zero done) (entry d) s at) ∙ e)
      where
        closed : (b : Bool) (i : ℕ) → i ≡ at + 9 + length (trailer d) → run_at (checked d h b (batch count seqno done)) s i ≡ ok (batch c q ps) j → Rest count seqno zero done at c q ps j
        closed true i g f =
            let ep : done ≡ ps = cc in
            let ec : count ≡ c = cc in
            let eq : seqno ≡ q = cc in
            let ej : i ≡ j = cc in
            record { more = []; all = sym ep ∙ sym (append-nil done); counted = refl; same_count = sym ec; same_seqno = sym eq; over = at; entries = refl; behind = sym g ∙ ej }
        closed false i g f = absurd (no_stop f)

        go : (x : Res Stop Entry) → run_at (entry d) s at ≡ x → cont (run_at (entry d) s at) (λ a i. run_at (judge d h count seqno zero done a) s i) ≡ ok (batch c q ps) j → Rest count seqno zero done at c q ps j
        go (stop y i) ex f = absurd (no_stop (rw ex at f))
        go (ok (start c' q') i) ex f = absurd (no_stop (rw ex at f))
        go (ok (body p) i) ex f = absurd (no_stop (rw ex at f))
        go (ok (end sum) i) ex f = closed (eqb (h (hashed d count seqno done)) sum) i (exact_of d s at k (ok (end sum) i) ex).0 (rw ex at f)
    rest_of count seqno (suc left) done at c q ps j k e = go (run_at (entry d) s at) refl (sym (at_bind (judge d h count seqno (suc left) done) (entry d) s at) ∙ e)
        (λ p i m. rest_of count seqno left (done ++ (p ∷ [])) i c q ps j m)
      where
        go : (x : Res Stop Entry) → run_at (entry d) s at ≡ x → cont (run_at (entry d) s at) (λ a i. run_at (judge d h count seqno (suc left) done a) s i) ≡ ok (batch c q ps) j
            → ((p : Put) (i : ℕ) → i ≤ length s → run_at (bind (entry d) (judge d h count seqno left (done ++ (p ∷ [])))) s i ≡ ok (batch c q ps) j → Rest count seqno left (done ++ (p ∷ [])) i c q ps j)
            → Rest count seqno (suc left) done at c q ps j
        go (stop y i) ex f ih = absurd (no_stop (rw ex at f))
        go (ok (start c' q') i) ex f ih = absurd (no_stop (rw ex at f))
        go (ok (end sum) i) ex f ih = absurd (no_stop (rw ex at f))
        go (ok (body p) i) ex f ih =
            let r = ih p i (within (entry d) s at (body p) i k ex) (rw ex at f) in
            record {
              more = p ∷ r.more;
              all = r.all ∙ append_assoc done (p ∷ []) r.more;
              counted = ap suc r.counted;
              same_count = r.same_count;
              same_seqno = r.same_seqno;
              over = r.over;
              entries = (i, ex, r.entries);
              behind = r.behind;
            }

    moved : (i at : ℕ) (more ps : List Put) (over : ℕ) → i ≡ at → ps ≡ more → Body d s i more over → Body d s at ps over
    moved i at more ps over e f b = rw (f, ← e) b

    -- the body of an accepted batch begins 13 bytes behind its Start, and holds as many entries as that says
    pub record Held (at count : ℕ) (ps : List Put) (j : ℕ) : Type 0 where
      pub over : ℕ
      pub entries : Body d s (at + 13) ps over
      pub counted : length ps ≡ count
      pub behind : over + 9 + length (trailer d) ≡ j
      pub within : at + 13 ≤ length s

    pub held : (at count seqno : ℕ) (ps : List Put) (j : ℕ) → at ≤ length s → run_at (batch_plan d h) s at ≡ ok (batch count seqno ps) j → Held at count ps j
    unfolding batch_plan open_batch cont run_at
    held at count seqno ps j k e = go (run_at (entry d) s at) refl (sym (at_bind (open_batch d h) (entry d) s at) ∙ e)
      where
        go : (x : Res Stop Entry) → run_at (entry d) s at ≡ x → cont (run_at (entry d) s at) (λ a i. run_at (open_batch d h a) s i) ≡ ok (batch count seqno ps) j → Held at count ps j
        go (stop y i) ex f = absurd (no_stop (rw ex at f))
        go (ok (body p) i) ex f = absurd (no_stop (rw ex at f))
        go (ok (end sum) i) ex f = absurd (no_stop (rw ex at f))
        go (ok (start c q) i) ex f =
            let w = exact_of d s at k (ok (start c q) i) ex in
            let r = rest_of c q c [] i count seqno ps j w.1 (rw ex at f) in
            record {
              over = r.over;
              entries = moved i (at + 13) r.more ps r.over w.0 r.all r.entries;
              counted = ap length r.all ∙ r.counted ∙ sym r.same_count;
              behind = r.behind;
              within = rw (← w.0) w.1;
            }
