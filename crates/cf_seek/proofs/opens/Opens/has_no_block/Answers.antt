use Rattle.std.proofs.Common.{◌<◌, ◌≤◌, List, length, get_or, sym, ◌∙◌, ap, subst}
use Rattle.cf_seek.specs.declared.open_at.OpenAt.{OpenAt}
use Rattle.cf_seek.specs.OpensOf.{block_at, block_or}
use Rattle.cf_seek.proofs.Openings.{seat_at, seat_past}
use Rattle.cf_seek.proofs.opens.Opens.has_no_block.Goals as goal

pub returns-in-Some-clause-no : goal.returns-in-Some-clause-no
returns-in-Some-clause-no c = λ e none. c.has_none.ensures.no e (λ block.
    let at = c.in-Some.at.now in
    let p = c.args.p.0 in
    let found = c.in-Some.ensures.lookup in
    let same = c.deref.ensures.value in
    let lt = subst (λ (xs : List OpenAt). p < length xs) same found.3.0 in
    ap (λ (a : OpenAt). block_at a block) (found.1 ∙ ap (λ (xs : List OpenAt). get_or xs p at) same)
    ∙ sym (seat_at (λ o. block_or o block) c.args.self.now.peers.items p at lt) ∙ none block)

pub returns-in-None-clause-yes : goal.returns-in-None-clause-yes
returns-in-None-clause-yes c = λ e block.
    let past = subst (λ (xs : List OpenAt). length xs ≤ c.args.p.0) c.deref.ensures.value c.in-None.ensures.lookup.3 in
    seat_past (λ o. block_or o block) c.args.self.now.peers.items c.args.p.0 past
