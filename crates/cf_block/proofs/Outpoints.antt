-- The order of outpoints: it is total, and two that it calls equal are the same.
use Rattle.std.proofs.Common.{◌≡◌, true, refl}
use Rattle.std.specs.declared.cmp.Ordering.{Ordering}
use Rattle.std.specs.declared.cmp.Ordering.TheVariants.{Less, Equal, Greater}
use Rattle.std.specs.Ordering.{is_eq, eq_by_cmp, nat_cmp, ordering_then}
use Rattle.std.specs.Cmp.{IsTotalOrder, then_total, on_total, nat_cmp_total}
use Rattle.std.specs.Cmp.Lexicographic.{slice_cmp, nat_list_cmp_total}
use Rattle.std.specs.FinMap.{IsAntisymmetric, nat_cmp-IsAntisymmetric, slice_cmp-IsAntisymmetric}
use Rattle.cf_block.specs.declared.tx.OutPoint.{OutPoint}
use Rattle.cf_block.specs.Outpoint.{outpoint_cmp}

pub outpoint_total : IsTotalOrder outpoint_cmp
outpoint_total = then_total (on_total (λ (p : OutPoint). p.txid.0) nat_list_cmp_total) (on_total (λ (p : OutPoint). p.index) nat_cmp_total)

both_equal : (r s : Ordering) → ordering_then r s ≡ Equal → (r ≡ Equal) × (s ≡ Equal)
both_equal Less s e = cc
both_equal Equal s e = (refl, e)
both_equal Greater s e = cc

pub outpoint_same : IsAntisymmetric outpoint_cmp
outpoint_same x y e =
    let parts = both_equal (slice_cmp nat_cmp x.txid.0 y.txid.0) (nat_cmp x.index y.index) e in
    let txids : x.txid.0 ≡ y.txid.0 = slice_cmp-IsAntisymmetric nat_cmp-IsAntisymmetric x.txid.0 y.txid.0 parts.0 in
    let indexes : x.index ≡ y.index = nat_cmp-IsAntisymmetric x.index y.index parts.1 in
    λ i. record { txid = record { 0 = txids i }; index = indexes i }

pub is_equal : (r : Ordering) → is_eq r ≡ true → r ≡ Equal
is_equal Less e = cc
is_equal Equal e = refl
is_equal Greater e = cc

pub same_name : (p k : OutPoint) → eq_by_cmp outpoint_cmp p k ≡ true → p ≡ k
same_name p k e = outpoint_same p k (is_equal (outpoint_cmp p k) e)
