-- The listing as the code meets it: entries and batches from a position on.
use Rattle.std.specs.Prelude.{ℕ, zero, suc, List, [], ◌++◌, length, drop}
use Rattle.xxh3.specs.Xxh3.{default_secret, hash}
use Rattle.plan.specs.Plan.{Res, ok, stop, run_at}
use Rattle.plan.specs.Reading.{read}
use Rattle.dialect.specs.declared.Dialect.{Dialect}
use Rattle.entry.specs.Entry.{Entry, start, body, end, Stop, entry}
use Rattle.reader.specs.Batch.{batch_plan}
use Rattle.listing.specs.Listing.{entry_line, reading_lines}

-- the line of what was read: none but for an Item or a Clear
unfoldable pub line_of : Dialect → Res Stop Entry → List ℕ
line_of d (ok (start c q) j) = []
line_of d (ok (body p) j) = entry_line d p
line_of d (ok (end c) j) = []
line_of d (stop e p) = []

-- where to go on
unfoldable pub next_of : ℕ → Res Stop Entry → ℕ
next_of at (ok (start c q) j) = at
next_of at (ok (body p) j) = j
next_of at (ok (end c) j) = at
next_of at (stop e p) = at

-- so many entries of s
unfoldable pub lines_at : Dialect → List ℕ → ℕ → ℕ → List ℕ
lines_at d s zero at = []
lines_at d s (suc left) at = line_of d (run_at (entry d) s at) ++ lines_at d s left (next_of at (run_at (entry d) s at))

-- all that is read of s
unfoldable pub lines_from : Dialect → List ℕ → ℕ → List ℕ
lines_from d s at = reading_lines d (length s) (read (batch_plan d (hash default_secret)) at (drop at s))
