use Rattle.std.proofs.Common.{ap, sym, ◌∙◌, map}
use Rattle.std.specs.Ordering.{nat_cmp}
use Rattle.std.specs.Cmp.Lexicographic.{slice_cmp, nat_list_cmp_total}
use Rattle.std.specs.FinMap as finite
use Rattle.cf_bytes.specs.Files.{entry_of}
use Rattle.cf_bytes.proofs.in_memory.map_files.find.Goals as goal

pub loop-key-init : goal.loop-key-init
loop-key-init c =
    finite.get-from_entries nat_list_cmp_total _ _
    ∙ ap (λ es. finite.find (slice_cmp nat_cmp) c.args.name.now (map entry_of es)) (sym c.into_iter-key-iterator.ensures.into_iter_gives.0)
