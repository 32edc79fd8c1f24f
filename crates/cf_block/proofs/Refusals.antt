-- Where what is refused begins.
use Rattle.std.proofs.Common.{◌≡◌, ℕ, List, arith}
use Rattle.cf_block.specs.Reading.{place_of}

pub place_start : (bytes : List ℕ) → place_of bytes bytes ≡ 0
place_start bytes = omega arith
