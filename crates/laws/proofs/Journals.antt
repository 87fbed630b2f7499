-- Journals of closed batches: their bytes read back, and cut anywhere and followed by zeros they end as the cut law says.
use Rattle.std.specs.Prelude.{ℕ, suc, ◌+◌, ◌^◌, ◌≤◌, ◌<◌, ◌≡◌, Bool, ◌||◌, take, eqb, leb}
use Rattle.std.proofs.Math.Path.{refl, ap}
use Rattle.std.proofs.Common.{◌∙◌, arith, eq-eqb}
use mathlib.Core.List.{List, [], ◌∷◌, ◌++◌, append-nil}
use Rattle.std.proofs.Math.ListN.{length}
use Rattle.std.proofs.Math.Seq.{append_snoc}
use Rattle.plan.specs.Plan.{bind, Takes, takes_done}
use Rattle.plan.specs.Reading.{Reading, clean, broken, next, read, read_nil, read_next, upto, keep}
use Rattle.dialect.specs.declared.Dialect.{Dialect}
use Rattle.dialect.specs.Good.{Good}
use Rattle.entry.specs.Entry.{Put, start, body, end, Stop, entry, put, put_all, hashed, put_batch, Fits, AllFit}
use Rattle.reader.specs.declared.Outcome.TheVariants as ends
use Rattle.reader.specs.Batch.{Batch, batch, judge, open_batch, batch_plan}
use Rattle.reader.specs.Found.{outcome_of}
use Rattle.reader.proofs.Bridge.{hungry}
use Rattle.plan.specs.Cut.{zeros, Dead, Cuts}
use Rattle.plan.specs.Journal.{Journal, empty, all, bound, expected, journal_clean}
use Rattle.plan.proofs.Journal.{cut}
use Rattle.laws.specs.Yields.{Place}
use Rattle.laws.specs.Written.{Torn, DeadAfter, takes_put, cuts_put, dead_entry}
use Rattle.laws.specs.Journals.{Closed, accepted, before, ends_at, bytes_of, journal, places, FitsAll, EachFits}
use Rattle.laws.proofs.Yields.{Reads}

upto_before : (c : ℕ) (R : Reading Stop Batch) → upto c R ≡ before c (all R)
unfolding upto before all
upto_before c (clean p) = refl
upto_before c (broken e p q) = refl
upto_before c (next a i j r) = ap (keep (leb j c) (a, i, j)) (upto_before c r)

-- h is any hash of 64 bits
module _ (d : Dialect) (h : List ℕ → ℕ) (range : (l : List ℕ) → h l < 256 ^ 8) (good : Good d) where
  dead : Dead Torn (batch_plan d h)
  unfolding batch_plan
  dead = dead_entry d (open_batch d h)

  takes_body : (c q : ℕ) (acc ps : List Put) → AllFit d ps
      → Takes (bind (entry d) (judge d h c q (length ps) acc)) (put_all d ps (put d (end (h (hashed d c q (acc ++ ps)))) [])) (batch c q (acc ++ ps))
  unfolding put_all judge AllFit Fits
  takes_body c q acc [] f =
      rw (append-nil acc)
      (takes_put d (judge d h c q 0 acc) (end (h (hashed d c q acc))) [] (batch c q acc) (range (hashed d c q acc))
      (rw (eq-eqb (h (hashed d c q acc)) (h (hashed d c q acc)) refl) (takes_done (batch c q acc))))
  takes_body c q acc (p ∷ ps) f =
      takes_put d (judge d h c q (suc (length ps)) acc) (body p) (put_all d ps (put d (end (h (hashed d c q (acc ++ (p ∷ ps))))) [])) (batch c q (acc ++ (p ∷ ps))) f.0
      (rw (append_snoc acc p ps) at (takes_body c q (acc ++ (p ∷ [])) ps f.1))

  takes_batch : (b : Closed) → FitsAll d b → Takes (batch_plan d h) (bytes_of d h b) (accepted b)
  unfolding batch_plan put_batch open_batch Fits
  takes_batch b f =
      let q = b.seqno in
      let ps = b.entries in
      takes_put d (open_batch d h) (start (length ps) q) (put_all d ps (put d (end (h (hashed d (length ps) q ps))) [])) (accepted b) (f.count_fits, f.seqno_fits)
      (takes_body (length ps) q [] ps f.fit)

  cuts_body : (c q : ℕ) (acc ps : List Put) (s : ℕ) → AllFit d ps → s < 256 ^ 8
      → Cuts Torn (bind (entry d) (judge d h c q (length ps) acc)) (put_all d ps (put d (end s) []))
  unfolding put_all judge AllFit Fits DeadAfter
  cuts_body c q acc [] s f hs = cuts_put d (judge d h c q 0 acc) good (end s) [] hs tt (λ j z hj. absurd (omega arith))
  cuts_body c q acc (p ∷ ps) s f hs =
      cuts_put d (judge d h c q (suc (length ps)) acc) good (body p) (put_all d ps (put d (end s) [])) f.0
      (λ p'. dead_entry d (judge d h c q (length ps) (acc ++ (p' ∷ []))))
      (cuts_body c q (acc ++ (p ∷ [])) ps s f.1 hs)

  cuts_batch : (b : Closed) → FitsAll d b → Cuts Torn (batch_plan d h) (bytes_of d h b)
  unfolding batch_plan put_batch open_batch Fits DeadAfter
  cuts_batch b f =
      let q = b.seqno in
      let ps = b.entries in
      cuts_put d (open_batch d h) good (start (length ps) q) (put_all d ps (put d (end (h (hashed d (length ps) q ps))) [])) (f.count_fits, f.seqno_fits)
      (λ c' q'. dead_entry d (judge d h c' q' c' []))
      (cuts_body (length ps) q [] ps (h (hashed d (length ps) q ps)) f.fit (range (hashed d (length ps) q ps)))

  is_journal : (bs : List Closed) → EachFits d bs → Journal ends.Clean ends.Torn outcome_of (batch_plan d h) (hungry d h) (journal d h bs)
  unfolding journal EachFits
  is_journal [] f = empty
  is_journal (b ∷ bs) f = Journal.batch (bytes_of d h b) (takes_batch b f.0) (cuts_batch b f.0) (is_journal bs f.1)

  -- a journal reads as its batches, where they lie
  reads_back : (at : ℕ) (bs : List Closed) → EachFits d bs → all (read (batch_plan d h) at (journal d h bs)) ≡ places d h at bs
  unfolding journal places all EachFits
  reads_back at [] f = rw (read_nil (batch_plan d h) (hungry d h) at)
  reads_back at (b ∷ bs) f =
      let w = bytes_of d h b in
      rw (read_next (batch_plan d h) (hungry d h) at w (journal d h bs) (accepted b) (takes_batch b f.0))
      (ap (λ (l : List Place). (accepted b, at, at + length w) ∷ l) (reads_back (at + length w) bs f.1))

  -- the boundaries of a journal: where it begins, and where a batch ends
  bound_places : (c at : ℕ) (bs : List Closed) → EachFits d bs → bound c (read (batch_plan d h) at (journal d h bs)) ≡ (eqb c at || ends_at c (places d h at bs))
  unfolding journal places bound ends_at EachFits
  bound_places c at [] f = rw (read_nil (batch_plan d h) (hungry d h) at) (grind arith)
  bound_places c at (b ∷ bs) f =
      let w = bytes_of d h b in
      rw (read_next (batch_plan d h) (hungry d h) at w (journal d h bs) (accepted b) (takes_batch b f.0))
      (ap (λ (b : Bool). eqb c at || b) (bound_places c (at + length w) bs f.1))

  -- ROUND TRIP: a journal reads as its batches, and clean
  pub round_trip : (bs : List Closed) → EachFits d bs → Reads d h (journal d h bs) (places d h 0 bs) ends.Clean
  round_trip bs f = record { shows = reads_back 0 bs f; ends_in = journal_clean ends.Clean ends.Torn outcome_of (batch_plan d h) (hungry d h) 0 (is_journal bs f) }

  -- CUT: the batches lying wholly before the cut; clean at a boundary with no zeros, else torn
  pub cut_law : (bs : List Closed) → EachFits d bs → (c z : ℕ) → c ≤ length (journal d h bs)
      → Reads d h (take c (journal d h bs) ++ zeros z) (before c (places d h 0 bs)) (expected ends.Clean ends.Torn (eqb c 0 || ends_at c (places d h 0 bs)) z)
  cut_law bs f c z l =
      let x = cut ends.Clean ends.Torn outcome_of (batch_plan d h) (hungry d h) dead (is_journal bs f) c z l in
      record {
        shows = x.shows ∙ upto_before c (read (batch_plan d h) 0 (journal d h bs)) ∙ ap (before c) (reads_back 0 bs f);
        ends_in = x.ends_in ∙ ap (λ (b : Bool). expected ends.Clean ends.Torn b z) (bound_places c 0 bs f);
      }
