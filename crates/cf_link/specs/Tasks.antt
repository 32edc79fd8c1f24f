-- machine: the tasks of connections, and what came of them.
use Rattle.std.specs.Prelude.{◌≡◌, ℕ, ◌+◌, List, ◌++◌, length, Option}
use Rattle.std.specs.List.{AllZip}
use Rattle.cf_conn.specs.Told.{ConnTold}
use Rattle.cf_link.specs.declared.task.ServeTask.{ServeTask}
use Rattle.cf_link.specs.Links.{Given, longer_by}

-- a task over this service, whose connection told this as it was accepted
abbrev pub IsTaskOf : {C S : Type 0} → (C → ConnTold) → S → ConnTold → ServeTask C S → Type 0
IsTaskOf told s c t = (told t.conn ≡ c) × (t.service ≡ s)

-- what came of a task
abbrev pub IsAnswered : {C S : Type 0} → (C → ConnTold) → (S → ConnTold → ℕ → ConnTold → Type 0) → ServeTask C S → Given → Type 0
IsAnswered told serves t b = serves t.service (told t.conn) b.how b.end

-- The first tasks of a line are joined, and what stays of their connections is given back in the same order.
pub record GivesBack {C S : Type 0} (told : C → ConnTold) (serves : S → ConnTold → ℕ → ConnTold → Type 0) (tasks tasks_after : List (ServeTask C S)) (given given_after : Option (List Given)) (owed owed_after : ℕ) : Type 0 where
  pub ended : List (ServeTask C S)
  pub back : List Given
  pub each : AllZip (IsAnswered told serves) ended back
  pub line : tasks ≡ ended ++ tasks_after
  pub given_told : given_after ≡ longer_by given back
  pub count : owed ≡ owed_after + length ended

-- Of the connections that were accepted the first are given back, each with what came of it, and the others have their tasks in the line.
pub record Halfway {C S : Type 0} (told : C → ConnTold) (serves : S → ConnTold → ℕ → ConnTold → Type 0) (s : S) (tasks : List (ServeTask C S)) (conns conns_after : Option (List ConnTold)) (given given_after : Option (List Given)) (accepted accepted_after owed owed_after : ℕ) : Type 0 where
  pub done : List ConnTold
  pub waiting : List ConnTold
  pub back : List Given
  pub each : AllZip (λ c b. serves s c b.how b.end) done back
  pub rest : AllZip (IsTaskOf told s) waiting tasks
  pub conns_told : conns_after ≡ longer_by conns (done ++ waiting)
  pub given_told : given_after ≡ longer_by given back
  pub count : accepted_after ≡ accepted + length (done ++ waiting)
  pub owed_count : owed_after ≡ owed + length waiting
