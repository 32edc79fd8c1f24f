-- What each step of serving does to the link and to the line.
use Rattle.std.proofs.Common.{◌≡◌, ◌≤◌, ℕ, ◌+◌, List, [], ◌∷◌, ◌++◌, Option, length, length-append, refl, ap, sym, ◌∙◌, subst, append_assoc, append-nil, arith}
use Rattle.std.specs.List.{AllZip}
use Rattle.cf_conn.specs.Told.{ConnTold}
use Rattle.cf_link.specs.declared.task.ServeTask.{ServeTask}
use Rattle.cf_link.specs.Links.{Given, LinkTold, longer_by}
use Rattle.cf_link.specs.Tasks.{IsTaskOf, IsAnswered, GivesBack, Halfway}
use Rattle.cf_link.specs.Serving.{Serves}
use Rattle.cf_link.proofs.Gathers.{zip_append, zip_split, zip_through, zip_length, none_more, longer_twice}

pub two_steps : {X : Type 0} (a b c : X) → a ≡ b → b ≡ c → a ≡ c
two_steps a b c e f = e ∙ f

pub three_steps : {X : Type 0} (a b c d : X) → a ≡ b → b ≡ c → c ≡ d → a ≡ d
three_steps a b c d e f g = e ∙ f ∙ g

module _ {C S : Type 0} (told : C → ConnTold) (serves : S → ConnTold → ℕ → ConnTold → Type 0) where
  pub gives_none : (tasks : List (ServeTask C S)) (given : Option (List Given)) (owed : ℕ) → GivesBack told serves tasks tasks given given owed owed
  gives_none tasks given owed = record {
    ended = [];
    back = [];
    each = tt;
    line = refl;
    given_told = none_more given;
    count = omega arith;
  }

  pub gives_one : (tasks mid after : List (ServeTask C S)) (given given_mid given_after : Option (List Given)) (owed owed_mid owed_after : ℕ) (t : ServeTask C S) (b : Given)
      → GivesBack told serves tasks mid given given_mid owed owed_mid → mid ≡ t ∷ after → IsAnswered told serves t b → given_after ≡ longer_by given_mid (b ∷ []) → owed_after + 1 ≡ owed_mid
      → GivesBack told serves tasks after given given_after owed owed_after
  gives_one tasks mid after given given_mid given_after owed owed_mid owed_after t b g is answered told_more owed_less = record {
    ended = g.ended ++ t ∷ [];
    back = g.back ++ b ∷ [];
    each = zip_append (IsAnswered told serves) g.ended g.back (t ∷ []) (b ∷ []) g.each (answered, tt);
    line = g.line ∙ ap (λ l. g.ended ++ l) is ∙ sym (append_assoc g.ended (t ∷ []) after);
    given_told = told_more ∙ ap (λ o. longer_by o (b ∷ [])) g.given_told ∙ longer_twice given g.back (b ∷ []);
    count = (let n = g.count in let m = length-append g.ended (t ∷ []) in omega (arith, n, m, owed_less));
  }

  -- some are given back, and then some more
  pub gives_more : (tasks mid from to after : List (ServeTask C S)) (given given_mid given_to given_after : Option (List Given)) (owed owed_mid owed_to owed_after : ℕ)
      → GivesBack told serves tasks mid given given_mid owed owed_mid → from ≡ mid → GivesBack told serves from to given_mid given_to owed_mid owed_to → after ≡ to → given_after ≡ given_to → owed_after ≡ owed_to
      → GivesBack told serves tasks after given given_after owed owed_after
  gives_more tasks mid from to after given given_mid given_to given_after owed owed_mid owed_to owed_after g begins h ends same_given same_owed = record {
    ended = g.ended ++ h.ended;
    back = g.back ++ h.back;
    each = zip_append (IsAnswered told serves) g.ended g.back h.ended h.back g.each h.each;
    line = g.line ∙ ap (λ l. g.ended ++ l) (sym begins ∙ h.line ∙ ap (λ l. h.ended ++ l) (sym ends)) ∙ sym (append_assoc g.ended h.ended after);
    given_told = same_given ∙ h.given_told ∙ ap (λ o. longer_by o h.back) g.given_told ∙ longer_twice given g.back h.back;
    count = (let n = g.count in let m = h.count in let k = length-append g.ended h.ended in omega (arith, n, m, k, same_owed));
  }

  -- what is left of the line is owed
  pub left_owed : (tasks after : List (ServeTask C S)) (given given_after : Option (List Given)) (owed owed_after : ℕ)
      → GivesBack told serves tasks after given given_after owed owed_after → length tasks ≤ owed → length after ≤ owed_after
  left_owed tasks after given given_after owed owed_after g few =
      let n = g.count in let m = ap length g.line ∙ length-append g.ended after in omega (arith, n, m, few)

  module _ (s : S) where
    pub halfway_none : (tasks : List (ServeTask C S)) (conns : Option (List ConnTold)) (given : Option (List Given)) (accepted owed : ℕ) → tasks ≡ [] → Halfway told serves s tasks conns conns given given accepted accepted owed owed
    halfway_none tasks conns given accepted owed none = record {
      done = [];
      waiting = [];
      back = [];
      each = tt;
      rest = (let P : List (ServeTask C S) → Type 0 = λ l. AllZip (IsTaskOf told s) [] l in subst P (sym none) tt);
      conns_told = none_more conns;
      given_told = none_more given;
      count = omega arith;
      owed_count = omega arith;
    }

    pub halfway_owed : (tasks : List (ServeTask C S)) (conns conns_mid : Option (List ConnTold)) (given given_mid : Option (List Given)) (accepted accepted_mid owed owed_mid : ℕ)
        → Halfway told serves s tasks conns conns_mid given given_mid accepted accepted_mid owed owed_mid → length tasks ≤ owed_mid
    halfway_owed tasks conns conns_mid given given_mid accepted accepted_mid owed owed_mid h =
        let n = h.owed_count in let m = zip_length (IsTaskOf told s) h.waiting tasks h.rest in omega (arith, n, m)

    answers : (c : ConnTold) (t : ServeTask C S) (b : Given) → IsTaskOf told s c t → IsAnswered told serves t b → serves s c b.how b.end
    answers c t b r u = let P : S × ConnTold → Type 0 = λ p. serves p.0 p.1 b.how b.end in subst P (λ j. (r.1 j, r.0 j)) u

    pub halfway_back : (tasks after : List (ServeTask C S)) (conns conns_mid : Option (List ConnTold)) (given given_mid given_after : Option (List Given)) (accepted accepted_mid owed owed_mid owed_after : ℕ)
        → Halfway told serves s tasks conns conns_mid given given_mid accepted accepted_mid owed owed_mid → GivesBack told serves tasks after given_mid given_after owed_mid owed_after
        → Halfway told serves s after conns conns_mid given given_after accepted accepted_mid owed owed_after
    halfway_back tasks after conns conns_mid given given_mid given_after accepted accepted_mid owed owed_mid owed_after h g =
        let P : List (ServeTask C S) → Type 0 = λ l. AllZip (IsTaskOf told s) h.waiting l in
        let split = zip_split (IsTaskOf told s) h.waiting g.ended after (subst P g.line h.rest) in
        let Q : ConnTold → Given → Type 0 = λ c b. serves s c b.how b.end in
        let same : h.done ++ h.waiting ≡ (h.done ++ split.0) ++ split.1 = ap (λ l. h.done ++ l) split.2 ∙ sym (append_assoc h.done split.0 split.1) in
        record {
          done = h.done ++ split.0;
          waiting = split.1;
          back = h.back ++ g.back;
          each = zip_append Q h.done h.back split.0 g.back h.each (zip_through (IsTaskOf told s) (IsAnswered told serves) Q answers split.0 g.ended g.back split.3 g.each);
          rest = split.4;
          conns_told = h.conns_told ∙ ap (longer_by conns) same;
          given_told = g.given_told ∙ ap (λ o. longer_by o g.back) h.given_told ∙ longer_twice given h.back g.back;
          count = h.count ∙ ap (λ l. accepted + length l) same;
          owed_count = (
              let n = h.owed_count in
              let m = g.count in
              let k = zip_length (IsTaskOf told s) split.0 g.ended split.3 in
              let l = ap length split.2 ∙ length-append split.0 split.1 in
              omega (arith, n, m, k, l)
              );
        }

    pub halfway_more : (tasks after : List (ServeTask C S)) (conns conns_mid conns_after : Option (List ConnTold)) (given given_mid : Option (List Given)) (accepted accepted_mid accepted_after owed owed_mid owed_after : ℕ) (t : ServeTask C S)
        → Halfway told serves s tasks conns conns_mid given given_mid accepted accepted_mid owed owed_mid → t.service ≡ s → after ≡ tasks ++ t ∷ [] → conns_after ≡ longer_by conns_mid (told t.conn ∷ [])
        → accepted_after ≡ accepted_mid + 1 → owed_after ≡ owed_mid + 1 → Halfway told serves s after conns conns_after given given_mid accepted accepted_after owed owed_after
    halfway_more tasks after conns conns_mid conns_after given given_mid accepted accepted_mid accepted_after owed owed_mid owed_after t h over more told_more one_more one_owed =
        let c : ConnTold = told t.conn in
        let P : List (ServeTask C S) → Type 0 = λ l. AllZip (IsTaskOf told s) (h.waiting ++ c ∷ []) l in
        let same : (h.done ++ h.waiting) ++ c ∷ [] ≡ h.done ++ (h.waiting ++ c ∷ []) = append_assoc h.done h.waiting (c ∷ []) in
        record {
          done = h.done;
          waiting = h.waiting ++ c ∷ [];
          back = h.back;
          each = h.each;
          rest = subst P (sym more) (zip_append (IsTaskOf told s) h.waiting tasks (c ∷ []) (t ∷ []) h.rest ((refl, over), tt));
          conns_told = told_more ∙ ap (λ o. longer_by o (c ∷ [])) h.conns_told ∙ longer_twice conns (h.done ++ h.waiting) (c ∷ []) ∙ ap (longer_by conns) same;
          given_told = h.given_told;
          count = (
              let n = h.count in
              let m = ap length same in
              let k = length-append (h.done ++ h.waiting) (c ∷ []) in
              omega (arith, n, m, k, one_more)
              );
          owed_count = (
              let n = h.owed_count in
              let m = length-append h.waiting (c ∷ []) in
              omega (arith, n, m, one_owed)
              );
        }

    none_waits : (waiting : List ConnTold) → AllZip (IsTaskOf told s) waiting [] → waiting ≡ []
    none_waits [] h = refl
    none_waits (_ ∷ _) h = absurd h

    -- nothing is left in the line: all that were accepted are given back
    pub halfway_over : (tasks : List (ServeTask C S)) (was now : LinkTold)
        → Halfway told serves s tasks was.conns now.conns was.given now.given was.accepted now.accepted was.owed now.owed → tasks ≡ [] → now.addresses ≡ was.addresses
        → Serves (serves s) was now
    halfway_over tasks was now h none at =
        let P : List (ServeTask C S) → Type 0 = λ l. AllZip (IsTaskOf told s) h.waiting l in
        let empty = none_waits h.waiting (subst P none h.rest) in
        let same : h.done ++ h.waiting ≡ h.done = ap (λ l. h.done ++ l) empty ∙ append-nil h.done in
        record {
          asked = h.done;
          back = h.back;
          each = h.each;
          conns = h.conns_told ∙ ap (longer_by was.conns) same;
          given = h.given_told;
          accepted = h.count ∙ ap (λ l. was.accepted + length l) same;
          owed = (let n = h.owed_count in let m = ap length empty in omega (arith, n, m));
          addresses = at;
        }

    -- some are given back, and then no other one is accepted
    pub halfway_from : (tasks mid after : List (ServeTask C S)) (conns conns_was conns_mid conns_after : Option (List ConnTold)) (given given_was given_mid given_after : Option (List Given)) (accepted accepted_was accepted_mid accepted_after owed owed_was owed_mid owed_after : ℕ)
        → Halfway told serves s tasks conns conns_was given given_was accepted accepted_was owed owed_was → GivesBack told serves tasks mid given_was given_mid owed_was owed_mid → conns_mid ≡ conns_was → accepted_mid ≡ accepted_was
        → after ≡ mid → conns_after ≡ conns_mid → given_after ≡ given_mid → accepted_after ≡ accepted_mid → owed_after ≡ owed_mid
        → Halfway told serves s after conns conns_after given given_after accepted accepted_after owed owed_after
    halfway_from tasks mid after conns conns_was conns_mid conns_after given given_was given_mid given_after accepted accepted_was accepted_mid accepted_after owed owed_was owed_mid owed_after h g ec ea et ec2 eg ea2 eo =
        let r = halfway_back tasks mid conns conns_was given given_was given_mid accepted accepted_was owed owed_was owed_mid h g in
        let P : List (ServeTask C S) → Type 0 = λ l. AllZip (IsTaskOf told s) r.waiting l in
        record {
          done = r.done;
          waiting = r.waiting;
          back = r.back;
          each = r.each;
          rest = subst P (sym et) r.rest;
          conns_told = ec2 ∙ ec ∙ r.conns_told;
          given_told = eg ∙ r.given_told;
          count = ea2 ∙ ea ∙ r.count;
          owed_count = eo ∙ r.owed_count;
        }

    -- some are given back, and then one more is accepted
    pub halfway_step : (tasks mid after : List (ServeTask C S)) (conns conns_was conns_mid conns_after : Option (List ConnTold)) (given given_was given_mid given_after : Option (List Given)) (accepted accepted_was accepted_mid accepted_after owed owed_was owed_mid owed_after : ℕ)
        → Halfway told serves s tasks conns conns_was given given_was accepted accepted_was owed owed_was → GivesBack told serves tasks mid given_was given_mid owed_was owed_mid → conns_mid ≡ conns_was → accepted_mid ≡ accepted_was
        → (t : ServeTask C S) → t.service ≡ s → after ≡ mid ++ t ∷ [] → conns_after ≡ longer_by conns_mid (told t.conn ∷ []) → given_after ≡ given_mid → accepted_after ≡ accepted_mid + 1 → owed_after ≡ owed_mid + 1
        → Halfway told serves s after conns conns_after given given_after accepted accepted_after owed owed_after
    halfway_step tasks mid after conns conns_was conns_mid conns_after given given_was given_mid given_after accepted accepted_was accepted_mid accepted_after owed owed_was owed_mid owed_after h g ec ea t over more told_more eg one_more one_owed =
        let r = halfway_back tasks mid conns conns_was given given_was given_mid accepted accepted_was owed owed_was owed_mid h g in
        rw eg (halfway_more mid after conns conns_was conns_after given given_mid accepted accepted_was accepted_after owed owed_mid owed_after t r over more (told_more ∙ ap (λ o. longer_by o (told t.conn ∷ [])) ec) (one_more ∙ ap (λ n. n + 1) ea) one_owed)

    -- all that are left are given back
    pub halfway_end : (tasks after : List (ServeTask C S)) (was mid now : LinkTold)
        → Halfway told serves s tasks was.conns mid.conns was.given mid.given was.accepted mid.accepted was.owed mid.owed → GivesBack told serves tasks after mid.given now.given mid.owed now.owed → now.conns ≡ mid.conns → now.accepted ≡ mid.accepted
        → after ≡ [] → now.addresses ≡ was.addresses → Serves (serves s) was now
    halfway_end tasks after was mid now h g ec ea none at =
        let r = halfway_back tasks after was.conns mid.conns was.given mid.given now.given was.accepted mid.accepted was.owed mid.owed now.owed h g in
        let q : Halfway told serves s after was.conns now.conns was.given now.given was.accepted now.accepted was.owed now.owed = rw (ec, ea) r in
        halfway_over after was now q none at
