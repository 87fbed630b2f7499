-- The end of a reading. Assumes nothing.
use Rattle.std.specs.Prelude.{ℕ, ◌≡◌, Ok}
use Rattle.reader.specs.declared.Reader.{Reader}
use Rattle.reader.specs.Reading.{state_refusal, keep, kept_of}

-- a state in range is not refused
pub kept_bytes : (n : ℕ) (r : Reader) → state_refusal n r ≡ Ok tt → kept_of n r ≡ Ok (keep n r)
unfolding kept_of
kept_bytes n r h = rw h
