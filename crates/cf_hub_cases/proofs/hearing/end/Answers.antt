use Rattle.std.proofs.Common.{◌∙◌, ap, refl, sym}
use Rattle.cf_hub.specs.Gives.{pieces_of, has_gone}
use Rattle.cf_wires.specs.Log.{Told}
use Rattle.cf_hub_cases.specs.Telling.{up_to}
use Rattle.cf_hub_cases.proofs.Comes.{same_log, first_came, whole_came, ticks_came}
use Rattle.cf_hub_cases.proofs.hearing.end.Goals as goal

pub returns-clause-first : goal.returns-clause-first
returns-clause-first g c =
    let k = c.requires.keeps in
    let d = same_log _ _ _ (ap (λ (z : Told). z.log) c.finish.ensures.told ∙ k.1) c.account.ensures.log in
    λ s e. first_came _ _ _ _ s _ _ _ (c.finish.ensures.whose ∙ e) c.account.ensures.sources refl (k.2.0 ∙ ap (pieces_of 1) d)

pub returns-clause-whole : goal.returns-clause-whole
returns-clause-whole g c =
    let k = c.requires.keeps in
    let d = same_log _ _ _ (ap (λ (z : Told). z.log) c.finish.ensures.told ∙ k.1) c.account.ensures.log in
    λ s e gone. whole_came _ _ _ _ s _ _ _ (c.finish.ensures.whose ∙ e) c.account.ensures.sources (λ t. t.calm) refl (k.2.0 ∙ ap (pieces_of 1) d) (sym (ap (has_gone 1) d) ∙ sym k.2.1 ∙ gone)

pub returns-clause-ticks : goal.returns-clause-ticks
returns-clause-ticks g c =
    let k = c.requires.keeps in
    let d = same_log _ _ _ (ap (λ (z : Told). z.log) c.finish.ensures.told ∙ k.1) c.account.ensures.log in
    λ p e z. (let t = ticks_came _ _ p _ _ _ (λ q. up_to q.given) (λ q. refl) (c.finish.ensures.rests ∙ e) d c.account.ensures.ticks (ap up_to z) k.2.2 in (t.0.given, t.1))
