-- What serving says of the answer and of the link.
use Rattle.std.proofs.Common.{◌≡◌, ◌≢◌, ℕ, ◌+◌, ◌≤◌, List, Result, Ok, Err, sym, subst}
use Rattle.std.specs.Prelude.{OnOk}
use Rattle.cf_link.specs.Links.{LinkTold}
use Rattle.cf_link.specs.Serving.{Serves, Counts}
use Rattle.cf_bytes.specs.declared.memory.Refused.{Refused}
use Rattle.cf_bytes.specs.declared.memory.Refused.TheVariants.{No, NoMemory as OutOfMemory}
use Rattle.cf_bytes.specs.declared.outside.Failed.{Failed}
use Rattle.cf_conn.specs.Told.{ConnTold}
use Rattle.cf_answers.specs.declared.status.Status.{Status}
use Rattle.cf_answers.specs.declared.status.Status.TheVariants.{LinkFault}
use Rattle.cf_cli_serve.specs.Serving.{listening, ServesAt, MayServe, ServesChain, answer_of}

-- where it wasn't the link that failed, its count of faults stays
pub counts_fine : (answer : Result (Unit {0}) (Refused Failed)) (status : Status) (before after : ℕ) → status ≡ answer_of answer → Counts answer before after → status ≢ LinkFault → after ≡ before
counts_fine (Ok done) status before after is same ne = same
counts_fine (Err (No failed)) status before after is risen ne = absurd (ne is)
counts_fine (Err OutOfMemory) status before after is same ne = same

-- two links tell the same
pub same_told : (a b : LinkTold) → a.addresses ≡ b.addresses → a.accepted ≡ b.accepted → a.owed ≡ b.owed → a.conns ≡ b.conns → a.given ≡ b.given → a ≡ b
same_told a b p q r s t = λ i. record { addresses = p i; accepted = q i; owed = r i; conns = s i; given = t i }

-- what was served since the link listens
pub since : (served : ConnTold → ℕ → ConnTold → Type 0) (address : List ℕ) (most : ℕ) (was mid now : LinkTold) → mid ≡ listening was address → Serves served mid now → now.accepted ≤ mid.accepted + most
    → ServesAt served address most was now
since served address most was mid now is given few =
    let P : LinkTold → Type 0 = λ t. Serves served t now × (now.accepted ≤ t.accepted + most) in subst P is (given, few)

-- by the way in which serving ended
pub chain_served : (answer : Result (Unit {0}) (Refused Failed)) (served : ConnTold → ℕ → ConnTold → Type 0) (address : List ℕ) (count : ℕ) (was now : LinkTold) → MayServe served address count was now
    → OnOk answer (ServesAt served address count was now) → OnOk answer (now.accepted ≡ was.accepted + count) → ServesChain (answer_of answer) served address count was now
chain_served (Ok done) served address count was now may at all = (at, all)
chain_served (Err (No failed)) served address count was now may at all = may
chain_served (Err OutOfMemory) served address count was now may at all = may

-- the same by a server of which it is known what it is
pub served_so : {A : Type 0} (answer : Result (Unit {0}) (Refused Failed)) (status : Status) (served : A → ConnTold → ℕ → ConnTold → Type 0) (server told : A) (address : List ℕ) (count : ℕ) (was now : LinkTold)
    → status ≡ answer_of answer → server ≡ told → MayServe (served server) address count was now → OnOk answer (ServesAt (served server) address count was now)
    → OnOk answer (now.accepted ≡ was.accepted + count) → ServesChain status (served told) address count was now
served_so {A} answer status served server told address count was now is same may at all =
    subst (λ (s : A). ServesChain status (served s) address count was now) same
    (subst (λ (x : Status). ServesChain x (served server) address count was now) (sym is) (chain_served answer (served server) address count was now may at all))
