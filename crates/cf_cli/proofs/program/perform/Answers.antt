use Rattle.std.proofs.Common.{ℤ, inr, rules, refl, subst}
use Rattle.std.proofs.Math.Facts.{to_z-of_z}
use Rattle.std.specs.Int.{w64}
use Rattle.std.specs.Prelude.{is_some}
use Rattle.cf_answers.specs.declared.status.Status.{Status}
use Rattle.cf_answers.specs.declared.status.Status.TheVariants.{FileFault, LinkFault, OutFault, Usage}
use Rattle.cf_cli_client.specs.Theorem.{IsOfRun}
use Rattle.cf_cli_demo.specs.Demo.{IsDemoed}
use Rattle.cf_cli_serve.specs.Serving.{IsServing}
use Rattle.cf_link.specs.Links.{LinkTold, link_now}
use Rattle.cf_offline.specs.Making.{IsMaking}
use Rattle.cf_offline.specs.Proving.{IsOfCheck, IsOfProve}
use Rattle.cf_offline.specs.Reading.{IsAddressed, IsOfFilter, IsOfScan}
use Rattle.cf_played.specs.Told.{log_of as played_log}
use Rattle.cf_wires.specs.Memory.{told_of}
use Rattle.cf_cli_client.proofs.Tallies.{versions_so}
use Rattle.cf_cli.proofs.Handed.{is_on, is_not, files_stay, wires_stay, tape_stays, dialled_wires, put_as}
use Rattle.cf_cli.proofs.Performing.{judged_none, link_stays, made_judged, out_once, out_stays, played_stays}
use Rattle.cf_cli.proofs.Records.{unrecorded_by}
use Rattle.cf_cli.proofs.program.perform.Goals as goal

pub returns-in-Replay : goal.returns-in-Replay
returns-in-Replay g c =
    let known : Status → Type 0 = IsOfRun in
    rw c.in-Replay.is (record {
      judged = rw (c.as_str.ensures, c.as_str-in-Replay.ensures) at c.replay.ensures.judged;
      does = record { replayed = rw c.as_str.ensures at c.replay.ensures.replayed; plays = rw c.as_str-in-Replay.ensures at c.replay.ensures.plays };
      files = record { unchanged = λ off. c.replay.ensures.unchanged; asked = rw (c.as_str.ensures, c.as_str-in-Replay.ensures) at c.replay.ensures.files; fault = c.replay.ensures.file_fault; fine = c.replay.ensures.file_fine };
      wires = wires_stay c.requires.wires;
      tape = record { versions = versions_so _ c.args.moment c.args.nonce (told_of c.replay.new.tape) (to_z-of_z {w = w64} {z = c.args.moment} (search rules)) c.replay.ensures.versions; unplayed = λ off. c.replay.ensures.unplayed (is_on _ off) };
      played = played_stays;
      link = link_stays (is_not known c.replay.result LinkFault c.replay.ensures.answers (λ is. is));
      out = out_once refl c.replay.ensures.unwritten c.replay.ensures.counts;
      asked = is_not known c.replay.result Usage c.replay.ensures.answers (λ is. is);
      spawner = record { workers = tt };
      ends = rw c.as_str-in-Replay.ensures at c.replay.ensures.ends;
    })

pub returns-in-Sync : goal.returns-in-Sync
returns-in-Sync g c =
    let known : Status → Type 0 = IsOfRun in
    let answers = c.sync.ensures.tallied.answers in
    rw c.in-Sync.is (record {
      judged = rw c.as_str-in-Sync.ensures at c.sync.ensures.files.judged;
      does = record { kept = rw (c.as_str-in-Sync.ensures, c.as_slice.ensures) at c.sync.ensures.kept; tallied = rw c.as_slice.ensures at c.sync.ensures.tallied; over = c.sync.ensures.over; dialled = rw c.as_slice.ensures at c.sync.ensures.wires.dialled; records = c.sync.ensures.files.records };
      files = record { unchanged = unrecorded_by _ c.sync.result _ _ _ c.sync.ensures.files.records; asked = rw c.as_str-in-Sync.ensures at c.sync.ensures.files.asked; fault = c.sync.ensures.files.fault; fine = c.sync.ensures.files.fine };
      wires = dialled_wires refl refl (to_z-of_z {w = w64} {z = c.args.moment} (search rules)) c.sync.ensures.wires;
      tape = tape_stays c.requires.tape;
      played = played_stays;
      link = link_stays (is_not known c.sync.result LinkFault answers (λ is. is));
      out = out_once refl c.sync.ensures.unwritten c.sync.ensures.counts;
      asked = is_not known c.sync.result Usage answers (λ is. is);
      spawner = record { workers = λ some most run. put_as g.K.Spawner.moves c.args.spawner.now c.sync.new.spawner (c.threads_of.ensures.same some most) (c.sync.ensures.threads run) };
      ends = rw c.as_slice.ensures at c.sync.ensures.ends;
    })

pub returns-in-Follow : goal.returns-in-Follow
returns-in-Follow g c =
    let known : Status → Type 0 = IsOfRun in
    let answers = c.follow.ensures.tallied.tallied.answers in
    rw c.in-Follow.is (record {
      judged = rw c.as_str-in-Follow.ensures at c.follow.ensures.files.judged;
      does = record { kept = rw (c.as_str-in-Follow.ensures, c.as_slice-in-Follow.ensures) at c.follow.ensures.kept; tallied = rw c.as_slice-in-Follow.ensures at c.follow.ensures.tallied; dialled = rw c.as_slice-in-Follow.ensures at c.follow.ensures.wires.dialled; records = c.follow.ensures.files.records };
      files = record { unchanged = unrecorded_by _ c.follow.result _ _ _ c.follow.ensures.files.records; asked = rw c.as_str-in-Follow.ensures at c.follow.ensures.files.asked; fault = c.follow.ensures.files.fault; fine = c.follow.ensures.files.fine };
      wires = dialled_wires refl refl (to_z-of_z {w = w64} {z = c.args.moment} (search rules)) c.follow.ensures.wires;
      tape = tape_stays c.requires.tape;
      played = played_stays;
      link = link_stays (is_not known c.follow.result LinkFault answers (λ is. is));
      out = record { unwritten = λ off. c.follow.ensures.unwritten (is_on _ off); counts = c.follow.ensures.counts };
      asked = is_not known c.follow.result Usage answers (λ is. is);
      spawner = record { workers = λ some most run. put_as g.K.Spawner.moves c.args.spawner.now c.follow.new.spawner (c.threads_of-in-Follow.ensures.same some most) (c.follow.ensures.threads run) };
      ends = rw c.as_slice-in-Follow.ensures at c.follow.ensures.ends;
    })

pub returns-in-Scan : goal.returns-in-Scan
returns-in-Scan g c =
    let known : Status → Type 0 = λ s. IsOfScan s (g.O.Sink.written c.args.out.now) (g.O.Sink.written c.scan.new.out) in
    rw c.in-Scan.is (record {
      judged = rw (c.as_str-in-Scan.ensures, c.as_str-in-Scan-2.ensures) at c.scan.ensures.judged;
      does = rw (c.as_str-in-Scan.ensures, c.as_str-in-Scan-2.ensures) at c.scan.ensures.scanned;
      files = record { unchanged = λ off. c.scan.ensures.unchanged; asked = (c.scan.new.files, rw (c.as_str-in-Scan.ensures, c.as_str-in-Scan-2.ensures) at c.scan.ensures.files, refl); fault = c.scan.ensures.file_fault; fine = c.scan.ensures.file_fine };
      wires = wires_stay c.requires.wires;
      tape = tape_stays c.requires.tape;
      played = played_stays;
      link = link_stays (is_not known c.scan.result LinkFault c.scan.ensures.scanned.answers (λ is. is));
      out = out_once refl c.scan.ensures.unwritten c.scan.ensures.counts;
      asked = is_not known c.scan.result Usage c.scan.ensures.scanned.answers (λ is. is);
      spawner = record { workers = tt };
      ends = refl;
    })

pub returns-in-Filter : goal.returns-in-Filter
returns-in-Filter g c =
    let known : Status → Type 0 = λ s. IsOfFilter s (g.O.Sink.written c.args.out.now) (g.O.Sink.written c.filter.new.out) in
    rw c.in-Filter.is (record {
      judged = rw c.as_str-in-Filter.ensures at c.filter.ensures.judged;
      does = rw c.as_str-in-Filter.ensures at c.filter.ensures.filtered;
      files = record { unchanged = λ off. c.filter.ensures.unchanged; asked = (c.filter.new.files, inr (c.filter.new.files, rw c.as_str-in-Filter.ensures at c.filter.ensures.files, refl), refl); fault = c.filter.ensures.file_fault; fine = c.filter.ensures.file_fine };
      wires = wires_stay c.requires.wires;
      tape = tape_stays c.requires.tape;
      played = played_stays;
      link = link_stays (is_not known c.filter.result LinkFault c.filter.ensures.filtered.answers (λ is. is));
      out = out_once refl c.filter.ensures.unwritten c.filter.ensures.counts;
      asked = is_not known c.filter.result Usage c.filter.ensures.filtered.answers (λ is. is);
      spawner = record { workers = tt };
      ends = refl;
    })

pub returns-in-Address : goal.returns-in-Address
returns-in-Address g c =
    let known : Status → Type 0 = λ s. IsAddressed s c.as_str-in-Address.result.now (g.O.Sink.written c.args.out.now) (g.O.Sink.written c.address.new.out) in
    rw c.in-Address.is (record {
      judged = judged_none (g.F.Files.files c.args.files.now) c.address.result c.address.ensures.judged;
      does = rw c.as_str-in-Address.ensures at c.address.ensures.addressed;
      files = files_stay (is_not known c.address.result FileFault c.address.ensures.addressed (λ is. is));
      wires = wires_stay c.requires.wires;
      tape = tape_stays c.requires.tape;
      played = played_stays;
      link = link_stays (is_not known c.address.result LinkFault c.address.ensures.addressed (λ is. is));
      out = out_once refl c.address.ensures.unwritten c.address.ensures.counts;
      asked = is_not known c.address.result Usage c.address.ensures.addressed (λ is. is);
      spawner = record { workers = tt };
      ends = refl;
    })

pub returns-in-Prove : goal.returns-in-Prove
returns-in-Prove g c =
    let known : Status → Type 0 = λ s. IsOfProve s (g.O.Sink.written c.args.out.now) (g.O.Sink.written c.prove.new.out) in
    rw c.in-Prove.is (record {
      judged = rw c.as_str-in-Prove.ensures at c.prove.ensures.judged;
      does = rw c.as_str-in-Prove.ensures at c.prove.ensures.proved;
      files = record { unchanged = λ off. c.prove.ensures.unchanged; asked = (c.prove.new.files, inr (c.prove.new.files, rw c.as_str-in-Prove.ensures at c.prove.ensures.files, refl), refl); fault = c.prove.ensures.file_fault; fine = c.prove.ensures.file_fine };
      wires = wires_stay c.requires.wires;
      tape = tape_stays c.requires.tape;
      played = played_stays;
      link = link_stays (is_not known c.prove.result LinkFault c.prove.ensures.proved.answers (λ is. is));
      out = out_once refl c.prove.ensures.unwritten c.prove.ensures.counts;
      asked = is_not known c.prove.result Usage c.prove.ensures.proved.answers (λ is. is);
      spawner = record { workers = tt };
      ends = refl;
    })

pub returns-in-Check : goal.returns-in-Check
returns-in-Check g c =
    let known : Status → Type 0 = λ s. IsOfCheck s (g.O.Sink.written c.args.out.now) (g.O.Sink.written c.check.new.out) in
    rw c.in-Check.is (record {
      judged = rw c.as_str-in-Check.ensures at c.check.ensures.judged;
      does = rw c.as_str-in-Check.ensures at c.check.ensures.checked;
      files = record { unchanged = λ off. c.check.ensures.unchanged; asked = (c.check.new.files, rw c.as_str-in-Check.ensures at c.check.ensures.files, refl); fault = c.check.ensures.file_fault; fine = c.check.ensures.file_fine };
      wires = wires_stay c.requires.wires;
      tape = tape_stays c.requires.tape;
      played = played_stays;
      link = link_stays (is_not known c.check.result LinkFault c.check.ensures.checked.answers (λ is. is));
      out = out_once refl c.check.ensures.unwritten c.check.ensures.counts;
      asked = is_not known c.check.result Usage c.check.ensures.checked.answers (λ is. is);
      spawner = record { workers = tt };
      ends = refl;
    })

pub returns-in-Serve : goal.returns-in-Serve
returns-in-Serve g c =
    let link = g.L.Link in
    let tell : g.row.L.Denot → LinkTold = link_now link.addresses link.accepted link.owed link.conns link.given in
    let serving : ℤ → Status → Type 0 = λ m s. IsServing (is_some c.in-Serve.grow) s m c.args.nonce (g.F.Files.files c.args.files.now) c.as_str-in-Serve.result.now c.as_str-in-Serve-2.result.now c.in-Serve.connections (tell c.args.link.now) (tell c.serve.new.link) in
    let served = subst (λ (m : ℤ). serving m c.serve.result) (to_z-of_z {w = w64} {z = c.args.moment} (search rules)) c.serve.ensures.serving in
    let known : Status → Type 0 = serving c.args.moment in
    rw c.in-Serve.is (record {
      judged = rw c.as_str-in-Serve.ensures at c.serve.ensures.judged;
      does = (rw (c.as_str-in-Serve.ensures, c.as_str-in-Serve-2.ensures) at served, refl);
      files = record { unchanged = λ off. c.serve.ensures.unchanged; asked = (c.serve.new.files, inr (c.serve.new.files, rw c.as_str-in-Serve.ensures at c.serve.ensures.files, refl), refl); fault = c.serve.ensures.file_fault; fine = c.serve.ensures.file_fine };
      wires = wires_stay c.requires.wires;
      tape = tape_stays c.requires.tape;
      played = played_stays;
      link = record { unserved = λ off. c.serve.ensures.unused (is_on _ off); fault = c.serve.ensures.link_fault; fine = c.serve.ensures.link_fine };
      out = out_stays (is_not known c.serve.result OutFault served (λ is. is));
      asked = is_not known c.serve.result Usage served (λ is. is);
      spawner = record { workers = tt };
      ends = refl;
    })

pub returns-in-Make : goal.returns-in-Make
returns-in-Make g c =
    let known : Status → Type 0 = λ s. IsMaking s c.in-Make.witness c.in-Make.seed c.in-Make.blocks c.as_str-in-Make.result.now (g.F.Files.files c.args.files.now) (g.F.Files.files c.make.new.files) in
    rw c.in-Make.is (record {
      judged = judged_none (g.F.Files.files c.args.files.now) c.make.result (made_judged c.make.result _ _ _ _ _ _ c.make.ensures.made);
      does = (rw c.as_str-in-Make.ensures at c.make.ensures.made, refl);
      files = record { unchanged = λ off. cc; asked = (c.args.files.now, refl, rw c.as_str-in-Make.ensures at c.make.ensures.files); fault = c.make.ensures.file_fault; fine = c.make.ensures.file_fine };
      wires = wires_stay c.requires.wires;
      tape = tape_stays c.requires.tape;
      played = played_stays;
      link = link_stays (is_not known c.make.result LinkFault c.make.ensures.made (λ is. is));
      out = out_stays (is_not known c.make.result OutFault c.make.ensures.made (λ is. is));
      asked = is_not known c.make.result Usage c.make.ensures.made (λ is. is);
      spawner = record { workers = tt };
      ends = refl;
    })

pub returns-in-Demo : goal.returns-in-Demo
returns-in-Demo g c =
    let known : Status → Type 0 = λ s. IsDemoed s c.in-Demo.seed c.in-Demo.blocks (g.O.Sink.written c.args.out.now) (g.O.Sink.written c.demo.new.out) (played_log c.demo.new.played) in
    rw c.in-Demo.is (record {
      judged = judged_none (g.F.Files.files c.args.files.now) c.demo.result c.demo.ensures.judged;
      does = c.demo.ensures.demoed;
      files = files_stay (is_not known c.demo.result FileFault c.demo.ensures.demoed (λ is. is));
      wires = wires_stay c.requires.wires;
      tape = tape_stays c.requires.tape;
      played = record { unshown = λ off. cc };
      link = link_stays (is_not known c.demo.result LinkFault c.demo.ensures.demoed (λ is. is));
      out = out_once refl c.demo.ensures.unwritten c.demo.ensures.counts;
      asked = is_not known c.demo.result Usage c.demo.ensures.demoed (λ is. is);
      spawner = record { workers = tt };
      ends = refl;
    })
