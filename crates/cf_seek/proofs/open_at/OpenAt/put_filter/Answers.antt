use Rattle.cf_seek.proofs.Openings.{listed_put}
use Rattle.cf_seek.proofs.open_at.OpenAt.put_filter.Goals as goal

pub invariant_of-self-2 : goal.invariant_of-self-2
invariant_of-self-2 c =
    let now = c.args.self.now in
    record {
      listed = listed_put now.filters.entries c.put_key.new.filters.entries now.asked.items c.push.new.self.items c.args.block
          c.in_ok-push.ensures.items c.put_key.ensures.only now.listed;
    }
