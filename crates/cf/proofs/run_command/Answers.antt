use Rattle.cf.proofs.run_command.Goals as goal

-- the hub of a network that is let go is as it was
pub invariant_of-heard : goal.invariant_of-heard
invariant_of-heard g c =
    record {
      waiting = c.drop.inside.hub.waiting;
      ticks = c.drop.inside.hub.ticks;
      spares = c.drop.inside.hub.spares;
      numbers = c.drop.inside.hub.numbers;
      one = c.drop.inside.hub.one;
      room = c.drop.inside.hub.room;
      few = c.drop.inside.hub.few;
      places = c.drop.inside.hub.places;
      holds = c.drop.inside.hub.holds;
      heard = c.drop.inside.hub.heard;
      gives = c.drop.inside.hub.gives;
      within = c.drop.inside.hub.within;
      counts = c.drop.inside.hub.counts;
      undone = c.drop.inside.hub.undone;
      unrested = c.drop.inside.hub.unrested;
      runs = c.drop.inside.hub.runs;
      owed = c.drop.inside.hub.owed;
      stopped = c.drop.inside.hub.stopped;
      over = c.drop.inside.hub.over;
      fronts = c.drop.inside.hub.fronts;
      beats = c.drop.inside.hub.beats;
      unshut = c.drop.inside.hub.unshut;
      reading_are = c.drop.inside.hub.reading_are;
      done_are = c.drop.inside.hub.done_are;
    }
