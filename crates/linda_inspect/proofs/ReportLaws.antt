-- What is reported of the banks of two files is what is reported of two disks that hold them.
use Rattle.std.proofs.Common.{◌≡◌, ◌⊎◌, ◌∙◌, ℕ, List, ap, subst, inl, inr}
use Rattle.linda_store_state.specs.State.{State}
use Rattle.linda_disk.specs.DiskHistory.{DiskHistory, view_of}
use Rattle.linda_snap.specs.Stands.{Stands}
use Rattle.linda_snap.specs.declared.choice.ChoiceFault.{ChoiceFault}
use Rattle.linda_snap.specs.declared.choice.ChoiceFault.TheVariants as choices
use Rattle.linda_inspect.specs.declared.fault.InspectFault.{InspectFault}
use Rattle.linda_inspect.specs.Faults.{fault_of_choice, IsOfOutput}

abbrev pub seen_of : DiskHistory → List ℕ
seen_of h = (view_of h).seen

pub stands_as : (left file right other : List ℕ) (st : State) → left ≡ file → right ≡ other → Stands left right st → Stands file other st
stands_as left file right other st one two stands =
    subst (λ (r : List ℕ). Stands file r st) two (subst (λ (l : List ℕ). Stands l right st) one stands)

pub of_output : (fault : ChoiceFault) (told : InspectFault) → told ≡ fault_of_choice fault → (fault ≡ choices.Disk) ⊎ (fault ≡ choices.Memory) → IsOfOutput told
of_output fault told is (inl disk) = inr (inr (is ∙ ap fault_of_choice disk))
of_output fault told is (inr memory) = inl (is ∙ ap fault_of_choice memory)
