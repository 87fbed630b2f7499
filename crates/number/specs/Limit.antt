-- Document 01's bound on the bytes of an image, a buffer or a hash's input, and on a batch's entries.
use Rattle.std.specs.Prelude.{ℕ}

abbrev pub limit : ℕ
limit = 4_294_967_295
