-- Code of a client, for a model's value that holds one.
use Rattle.std.specs.Prelude.{◌≡◌, ℕ, ◌⊎◌, List, Option, Some, None, refl}
use Rattle.std.specs.Coded.{Coded, code_by, coded×, coded⊎, coded_ℕ, coded_option, coded_list}
use Rattle.std.proofs.Common.{inl, inr}
use Rattle.linda_tuple.specs.Tuple.{Tuple}
use Rattle.linda_tuple.specs.Codes.{tuple_code}
use Rattle.linda_client.specs.declared.task.Task.{Task}
use Rattle.linda_client.specs.declared.task.Task.TheVariants.{Idle, Putting, Syncing, Leaving, Left}
use Rattle.linda_client.specs.Pending.{Pending}
use Rattle.linda_client.specs.PendingCode.{pending_code}
use Rattle.linda_client.specs.Client.{Client}

-- the parts of a task
abbrev pub TaskParts : Type 0
TaskParts = Option (Option ((ℕ × (ℕ × Tuple)) ⊎ (Pending ⊎ List (ℕ × ℕ))))

abbrev pub task_parts : Task → TaskParts
task_parts Idle = None
task_parts (Putting server n row) = Some (Some (inl (server, (n, row))))
task_parts (Syncing pending) = Some (Some (inr (inl pending)))
task_parts (Leaving leaves) = Some (Some (inr (inr leaves)))
task_parts Left = Some None

abbrev pub task_of_parts : TaskParts → Task
task_of_parts None = Idle
task_of_parts (Some None) = Left
task_of_parts (Some (Some (inl p))) = Putting p.0 p.1.0 p.1.1
task_of_parts (Some (Some (inr (inl pending)))) = Syncing pending
task_of_parts (Some (Some (inr (inr leaves)))) = Leaving leaves

abbrev pub task_again : (t : Task) → task_of_parts (task_parts t) ≡ t
task_again Idle = refl
task_again (Putting server n row) = refl
task_again (Syncing pending) = refl
task_again (Leaving leaves) = refl
task_again Left = refl

-- the code of a task
abbrev pub task_code : Coded Task
task_code = code_by TaskParts
    (coded_option (coded_option (coded⊎
    (coded× coded_ℕ (coded× coded_ℕ tuple_code))
    (coded⊎ pending_code (coded_list (coded× coded_ℕ coded_ℕ))))))
    task_parts task_of_parts task_again

-- the code of a client
abbrev pub client_code : Coded Client
client_code =
    code_by (ℕ × (ℕ × (List ℕ × (ℕ × (ℕ × Task)))))
    (coded× coded_ℕ (coded× coded_ℕ
    (coded× (coded_list coded_ℕ) (coded× coded_ℕ (coded× coded_ℕ task_code)))))
    (λ c. (c.number, (c.clock, (c.next, (c.outs, (c.ticket, c.task))))))
    (λ p. record {
      number = p.0;
      clock = p.1.0;
      next = p.1.1.0;
      outs = p.1.1.1.0;
      ticket = p.1.1.1.1.0;
      task = p.1.1.1.1.1;
    }) (λ _. refl)
