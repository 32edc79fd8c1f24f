use Rattle.std.proofs.Common.{◌≡◌, false, refl, rules}
use Rattle.std.proofs.Math.Facts.{to_z-of_z}
use Rattle.std.specs.Int.{w64}
use Rattle.cf_run.specs.Names.{names_in}
use Rattle.cf_sync.specs.Fetching.{following}
use Rattle.cf_answers.specs.declared.status.Status.TheVariants.{NoMemory}
use Rattle.cf_cli_client.proofs.Ends.{copied, ends_put, ends_stay}
use Rattle.cf_cli_client.proofs.Tallies.{leaves_so}
use Rattle.cf_cli_client.proofs.Stays.{begun_by, counts_fine, failed_given, failed_told, over_given, run_tallied_on, some_put_told, some_so_told, spent_given, spent_tallied_on, spent_told, stayed_told, unwritten_tallied_on}
use Rattle.cf_cli_client.proofs.following.follow_live.Goals as goal

-- ---- the run is over

pub returns-in-Ok-ends_of-clause-ran : goal.returns-in-Ok-ends_of-clause-ran
returns-in-Ok-ends_of-clause-ran g c =
    λ recorded.
    let same : c.follow_traced.new.texts.sink.now ≡ c.out-1.given.0 = search rules in
    let o = c.in-Ok.outcome in
    record {
      kept = stayed_told (g.W.Wires.told c.follow_traced.new.wires).log g.H.HeaderStore.counts c.args.watch (names_in c.args.names.now) c.in-Ok.outcome c.status_of.result recorded false _ _ _ _
          c.in-Ok.ensures.outcome c.in-Ok.ensures.theorem c.status_of.ensures.answer (rw (c.new-texts.ensures.same, same) at c.in-Ok.ensures.put.put) (λ texts e. e);
      given_up = over_given (g.W.Wires.told c.follow_traced.new.wires).log c.status_of.result c.args.watch (names_in c.args.names.now) _ _ _ _ c.status_of.ensures.over
          (rw (c.new-texts.ensures.same, same) at c.in-Ok.ensures.put.fine);
      tallied = run_tallied_on c.args.names.now o.end o.ends.items c.status_of.result _ c.status_of.ensures.answer c.status_of.ensures.answers c.follow_traced.ensures.wires c.in-Ok.ensures.within c.in-Ok.ensures.done;
    }

pub returns-in-Ok-ends_of-clause-counts : goal.returns-in-Ok-ends_of-clause-counts
returns-in-Ok-ends_of-clause-counts g c =
    let same : c.follow_traced.new.texts.sink.now ≡ c.out-1.given.0 = search rules in
    counts_fine c.status_of.result _ _ c.status_of.ensures.over (rw (c.new-texts.ensures.same, same) at c.in-Ok.ensures.put.fine)

pub returns-in-Ok-ends_of-clause-ends : goal.returns-in-Ok-ends_of-clause-ends
returns-in-Ok-ends_of-clause-ends g c =
    ends_put c.status_of.result false (begun_by c.status_of.result false c.status_of.ensures.unrefused)
    (copied (g.W.Wires.told c.follow_traced.new.wires) g.H.HeaderStore.counts (following c.args.watch) false c.args.names.now c.in-Ok.outcome _
    c.in-Ok-ends_of.ensures c.in-Ok.ensures.outcome c.follow_traced.ensures.wires.finished
    c.in-Ok.ensures.within)

-- ---- memory is wanting

pub returns-in_default-clause-ran : goal.returns-in_default-clause-ran
returns-in_default-clause-ran g c =
    λ recorded.
    let same : c.follow_traced.new.texts.sink.now ≡ c.out-1.given.0 = search rules in
    record {
      kept = spent_told (g.W.Wires.told c.follow_traced.new.wires).log c.args.watch (names_in c.args.names.now) recorded _ _ (some_put_told (g.W.Wires.told c.follow_traced.new.wires).log c.args.watch _ _ (rw (c.new-texts.ensures.same, same) at c.in-Ok.ensures.put.put))
          c.follow_traced.ensures.right;
      given_up = spent_given (g.W.Wires.told c.follow_traced.new.wires).log c.args.watch (names_in c.args.names.now) _ _ _ _
          (rw (c.new-texts.ensures.same, same) at c.in-Ok.ensures.put.fine)
          (some_put_told (g.W.Wires.told c.follow_traced.new.wires).log c.args.watch _ _ (rw (c.new-texts.ensures.same, same) at c.in-Ok.ensures.put.put));
      tallied = spent_tallied_on NoMemory _ refl tt c.follow_traced.ensures.wires;
    }

pub returns-in-Err-NoMemory-clause-ran : goal.returns-in-Err-NoMemory-clause-ran
returns-in-Err-NoMemory-clause-ran g c =
    λ recorded.
    let same : c.follow_traced.new.texts.sink.now ≡ c.out-1.given.0 = search rules in
    let so = rw c.in-Err-NoMemory.field-0-is at c.in-Err-NoMemory.ensures.cut in
    record {
      kept = spent_told (g.W.Wires.told c.follow_traced.new.wires).log c.args.watch (names_in c.args.names.now) recorded _ _ (some_so_told (g.W.Wires.told c.follow_traced.new.wires).log c.args.watch _ _ (rw (c.new-texts.ensures.same, same) at so.put))
          c.follow_traced.ensures.right;
      given_up = spent_given (g.W.Wires.told c.follow_traced.new.wires).log c.args.watch (names_in c.args.names.now) _ _ _ _
          (rw (c.new-texts.ensures.same, same) at so.fine)
          (some_so_told (g.W.Wires.told c.follow_traced.new.wires).log c.args.watch _ _ (rw (c.new-texts.ensures.same, same) at so.put));
      tallied = spent_tallied_on NoMemory _ refl tt c.follow_traced.ensures.wires;
    }

pub returns-in_default-clause-counts : goal.returns-in_default-clause-counts
returns-in_default-clause-counts g c =
    let same : c.follow_traced.new.texts.sink.now ≡ c.out-1.given.0 = search rules in
    let fine = rw (c.new-texts.ensures.same, same) at c.in-Ok.ensures.put.fine in
    record { fault = λ is. cc; fine = λ ne. fine }

pub returns-in-Err-NoMemory-clause-counts : goal.returns-in-Err-NoMemory-clause-counts
returns-in-Err-NoMemory-clause-counts g c =
    let same : c.follow_traced.new.texts.sink.now ≡ c.out-1.given.0 = search rules in
    let so = rw c.in-Err-NoMemory.field-0-is at c.in-Err-NoMemory.ensures.cut in
    let fine = rw (c.new-texts.ensures.same, same) at so.fine in
    record { fault = λ is. cc; fine = λ ne. fine }

-- ---- a text could not be put

pub returns-in-Err-Failed-clause-ran : goal.returns-in-Err-Failed-clause-ran
returns-in-Err-Failed-clause-ran g c =
    λ recorded.
    let same : c.follow_traced.new.texts.sink.now ≡ c.out-1.given.0 = search rules in
    let cut = rw c.in-Err-Failed.field-0-is at c.in-Err-Failed.ensures.cut in
    record {
      kept = failed_told (g.W.Wires.told c.follow_traced.new.wires).log c.args.watch (names_in c.args.names.now) recorded _ _ (rw (c.new-texts.ensures.same, same) at cut.put) c.follow_traced.ensures.right cut.run;
      given_up = failed_given (g.W.Wires.told c.follow_traced.new.wires).log c.args.watch (names_in c.args.names.now) _ _ _ _ (rw (c.new-texts.ensures.same, same) at cut.put) (rw (c.new-texts.ensures.same, same) at cut.risen);
      tallied = unwritten_tallied_on _ c.follow_traced.ensures.wires cut.dialled;
    }

pub returns-in-Err-Failed-clause-counts : goal.returns-in-Err-Failed-clause-counts
returns-in-Err-Failed-clause-counts g c =
    let same : c.follow_traced.new.texts.sink.now ≡ c.out-1.given.0 = search rules in
    let cut = rw c.in-Err-Failed.field-0-is at c.in-Err-Failed.ensures.cut in
    let risen = rw (c.new-texts.ensures.same, same) at cut.risen in
    record { fault = λ is. risen; fine = λ ne. absurd (ne refl) }

-- ---- what its wires told, and how its peers stand

pub returns-in-Ok-ends_of-clause-wires : goal.returns-in-Ok-ends_of-clause-wires
returns-in-Ok-ends_of-clause-wires g c =
    leaves_so _ c.args.moment c.args.nonce (to_z-of_z {w = w64} {z = c.args.moment} (search rules)) c.follow_traced.ensures.wires

pub returns-in_default-clause-wires : goal.returns-in_default-clause-wires
returns-in_default-clause-wires g c =
    leaves_so _ c.args.moment c.args.nonce (to_z-of_z {w = w64} {z = c.args.moment} (search rules)) c.follow_traced.ensures.wires

pub returns-in-Err-Failed-clause-wires : goal.returns-in-Err-Failed-clause-wires
returns-in-Err-Failed-clause-wires g c =
    leaves_so _ c.args.moment c.args.nonce (to_z-of_z {w = w64} {z = c.args.moment} (search rules)) c.follow_traced.ensures.wires

pub returns-in-Err-NoMemory-clause-wires : goal.returns-in-Err-NoMemory-clause-wires
returns-in-Err-NoMemory-clause-wires g c =
    leaves_so _ c.args.moment c.args.nonce (to_z-of_z {w = w64} {z = c.args.moment} (search rules)) c.follow_traced.ensures.wires

pub returns-in_default-clause-ends : goal.returns-in_default-clause-ends
returns-in_default-clause-ends g c = ends_stay _ _ _ _ _ refl

pub returns-in-Err-Failed-clause-ends : goal.returns-in-Err-Failed-clause-ends
returns-in-Err-Failed-clause-ends g c = ends_stay _ _ _ _ _ refl

pub returns-in-Err-NoMemory-clause-ends : goal.returns-in-Err-NoMemory-clause-ends
returns-in-Err-NoMemory-clause-ends g c = ends_stay _ _ _ _ _ refl
