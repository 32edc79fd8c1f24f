use Rattle.std.proofs.Common.{◌≡◌, ℕ, List, [], ◌∷◌, ◌++◌, None, length, ap, ◌∙◌, subst, arith}
use Rattle.cf_frame.specs.Stream.{read_stream}
use Rattle.cf_peer.specs.Trail.{spelled}
use Rattle.cf_played.proofs.Sends.{one_frame, none_follows, more_spells, waiting_spells, bad_spells}
use Rattle.cf_played.proofs.hearing.whole_frame.Goals as goal

pub returns-then-bytes-as_slice : goal.returns-then-bytes-as_slice
returns-then-bytes-as_slice c =
    let fed : c.feed.new.self ≡ c.args.bytes.now = c.in_ok-feed.ensures.ok ∙ ap (λ (s : List ℕ). s ++ c.args.bytes.now) c.new-framer.ensures in
    let e = rw c.in-Ok-Some.field-0-is at c.in-Ok-Some.ensures.exact in
    let begins = rw c.in-Ok-Some.field-0-is at c.in-Ok-Some.ensures.found in
    subst (λ (s : List ℕ). read_stream s ≡ record { frames = c.in-Ok-Some.frame ∷ []; rest = []; fault = None }) fed
    (one_frame c.feed.new.self c.next.new.self c.in-Ok-Some.frame e
    (none_follows c.feed.new.self c.next.new.self c.in-Ok-Some.frame begins (omega (arith, c.if-bytes-as_slice.true, ap length fed, ap length c.as_slice.ensures))))

pub returns-in-Ok-Some : goal.returns-in-Ok-Some
returns-in-Ok-Some c =
    let fed : c.feed.new.self ≡ c.args.bytes.now = c.in_ok-feed.ensures.ok ∙ ap (λ (s : List ℕ). s ++ c.args.bytes.now) c.new-framer.ensures in
    let e = rw c.in-Ok-Some.field-0-is at c.in-Ok-Some.ensures.exact in
    let begins = rw c.in-Ok-Some.field-0-is at c.in-Ok-Some.ensures.found in
    subst (λ (s : List ℕ). spelled s ≡ None) fed
    (more_spells c.feed.new.self c.next.new.self c.in-Ok-Some.frame e begins
    (λ same. c.if-bytes-as_slice.false (omega (arith, same, ap length fed, ap length c.as_slice.ensures))))

pub returns-in-Ok-None : goal.returns-in-Ok-None
returns-in-Ok-None c =
    let fed : c.feed.new.self ≡ c.args.bytes.now = c.in_ok-feed.ensures.ok ∙ ap (λ (s : List ℕ). s ++ c.args.bytes.now) c.new-framer.ensures in
    let e = rw c.in-Ok-None.field-0-is at c.in-Ok-None.ensures.exact in
    subst (λ (s : List ℕ). spelled s ≡ None) fed (waiting_spells c.feed.new.self e.0)

pub returns-in-Err-No : goal.returns-in-Err-No
returns-in-Err-No c =
    let fed : c.feed.new.self ≡ c.args.bytes.now = c.in_ok-feed.ensures.ok ∙ ap (λ (s : List ℕ). s ++ c.args.bytes.now) c.new-framer.ensures in
    let e = rw c.in-Err-No.field-0-is at c.in-Err-No.ensures.exact in
    subst (λ (s : List ℕ). spelled s ≡ None) fed (bad_spells c.feed.new.self _ e.0)
