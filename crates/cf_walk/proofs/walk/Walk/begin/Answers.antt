use Rattle.std.proofs.Common.{◌≡◌, List, ℕ, drop, Some, None, refl, sym, subst}
use Rattle.cf_walk.specs.Files.{after_genesis}
use Rattle.cf_walk.proofs.Strides.{begins_after, begins_alone}
use Rattle.cf_walk.proofs.walk.Walk.begin.Goals as goal

pub returns-in-Some-clause-walks : goal.returns-in-Some-clause-walks
returns-in-Some-clause-walks g c = λ bytes blocks way.
    let w = c.prepare.new.window in
    let n = c.in-Some.n in
    let told = rw c.in-Some.is at c.in-Ok.ensures.exact in
    let first : after_genesis w.held ≡ Some (drop n w.held) = subst (λ (l : List ℕ). after_genesis l ≡ Some (drop n l)) c.held.ensures (sym told) in
    begins_after bytes (drop n w.held) c.args.self.now _ (g.S.Source.left c.args.source.now) (g.S.Source.left c.prepare.new.source) w blocks c.if-self.false
    c.in_ok-prepare.ensures.same c.in_ok-prepare.ensures.bound c.in_ok-prepare.ensures.ready first refl c.take.ensures refl refl way

pub returns-in-None-clause-walks : goal.returns-in-None-clause-walks
returns-in-None-clause-walks g c = λ bytes blocks way.
    let w = c.prepare.new.window in
    let told = rw c.in-None.is at c.in-Ok.ensures.exact in
    let first : after_genesis w.held ≡ None = subst (λ (l : List ℕ). after_genesis l ≡ None) c.held.ensures (sym told) in
    begins_alone bytes c.args.self.now _ (g.S.Source.left c.args.source.now) (g.S.Source.left c.prepare.new.source) w blocks c.if-self.false
    c.in_ok-prepare.ensures.same c.in_ok-prepare.ensures.bound c.in_ok-prepare.ensures.ready first refl refl refl refl way
