use Rattle.std.proofs.Common.{◌≡◌, ◌*◌, ◌/◌, length, drop}
use Rattle.std.specs.List.{fold}
use Rattle.cf_siphash.specs.SipHash.{start, absorb, words_of}
use Rattle.cf_siphash.proofs.sip24.Given as goal

-- the state takes in the words that are left as the first one does all of them
abbrev pub invariant-loop-word : goal.invariant-loop-word
invariant-loop-word l = record {
  words : fold absorb (start l.k0 l.k1) (words_of (length l.bytes / 8) l.bytes) ≡ fold absorb l.state (words_of (length l.rest / 8) l.rest);
  left : drop (length l.bytes / 8 * 8) l.bytes ≡ drop (length l.rest / 8 * 8) l.rest;
}

abbrev pub decreases-loop-word : goal.decreases-loop-word
decreases-loop-word l = length l.rest
