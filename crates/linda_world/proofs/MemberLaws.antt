-- A call of one client among all.
use Rattle.std.proofs.Common.{◌≡◌, ℕ, List, Some, IsSome, is_some, inl, inr, sym, ap, ◌∙◌, nat_cmp, BTreeMap}
use Rattle.std.specs.Prelude.{Result, Ok, Err}
use Rattle.std.specs.Option.{option_map}
use Rattle.std.specs.BTreeMap as tree
use Rattle.std.specs.FinMap.{get, insert, from_entries}
use Rattle.std.proofs.lemmas.Bool.Decides.{eqb_tells}
use Rattle.linda_map_laws.proofs.MapLaws.{get_same, get_other, same_map_by_key, one_set, viewed}
use Rattle.linda_client.specs.React.{Call, react}
use Rattle.linda_world_laws.specs.declared.packet.Packet.{Packet}
use Rattle.linda_world_laws.specs.declared.seen.Seen.{Seen}
use Rattle.linda_world_laws.specs.World.{Member, Members}
use Rattle.linda_world_laws.specs.Steps.{Told}
use Rattle.linda_world.specs.declared.fault.WorldFault.{WorldFault}
use Rattle.linda_world.specs.declared.fault.WorldFault.TheVariants as faults
use Rattle.linda_world.specs.Member.{refusal_of, refusal_to, Reacts, ReactsOrNot, ReactsIn, SameGot, ReactsInOrNot}

-- One client was called, and is another then.
module _ (call : Call) (c : ℕ) (old new : Members) (ps later : List Packet) (t u : BTreeMap ℕ Member) (member now : Member)
    (is : from_entries {R = nat_cmp} t.entries ≡ old) (new_is : from_entries {R = nat_cmp} u.entries ≡ new)
    (there : tree.get nat_cmp t c ≡ Some member) (updates : IsSome (tree.get nat_cmp t c) → tree.Updates nat_cmp t u c (Some now)) where
  known : get old c ≡ Some member
  known = sym (viewed t old is c) ∙ there

  set_now : new ≡ insert old c now
  set_now = sym new_is ∙ one_set t u c now (updates (ap is_some there)) ∙ ap (λ x. insert x c now) is

  same_now : now ≡ member → new ≡ old
  same_now same = set_now ∙ ap (insert old c) same
      ∙ same_map_by_key (insert old c member) old c (get_same old c member ∙ sym known) (λ q apart. get_other old c member q apart)

  same_got : now.got ≡ member.got → SameGot old new
  same_got same d = elim (eqb_tells d c) [
    | inl here ↦ (ap (λ m. option_map (λ (m : Member). m.got) (get m d)) set_now
        ∙ ap (λ k. option_map (λ (m : Member). m.got) (get (insert old c now) k)) here.1 ∙ ap (option_map (λ (m : Member). m.got)) (get_same old c now)
        ∙ ap (λ l. Some l) same ∙ sym (ap (λ k. option_map (λ (m : Member). m.got) (get old k)) here.1 ∙ ap (option_map (λ (m : Member). m.got)) known))
    | inr apart ↦ ap (option_map (λ (m : Member). m.got)) (ap (λ m. get m d) set_now ∙ get_other old c now d apart.1)
  ]

  refused : (fault : WorldFault) → (refusal_of (react member.client call) ≡ Some fault) × ((now ≡ member) × (later ≡ ps))
      → (refusal_to (get old c) call ≡ Some fault) × ((new ≡ old) × (later ≡ ps))
  refused fault no_call = (ap (λ o. refusal_to o call) known ∙ no_call.0, (same_now no_call.1.0, no_call.1.1))

  done : (told : Told) → Reacts call c member ps told now later → ReactsIn call c old ps told new later
  done told reacts = record { member = member; known = known; now = now; reacts = reacts; members = set_now }

  pub reacted_in : (result : Result Seen WorldFault) → ReactsOrNot call c member ps result now later → ReactsInOrNot call c old ps result new later
  reacted_in (Ok seen) reacts = done (Ok seen) reacts
  reacted_in (Err (faults.Down s)) reacts = done (Err s) reacts
  reacted_in (Err faults.Memory) short = (ap (λ o. refusal_to o call) known ∙ short.0, (same_got short.1.0, short.1.1))
  reacted_in (Err faults.NoClient) no_call = refused faults.NoClient no_call
  reacted_in (Err faults.NoServer) no_call = refused faults.NoServer no_call
  reacted_in (Err faults.NoPacket) no_call = refused faults.NoPacket no_call
  reacted_in (Err faults.ClientKnown) no_call = refused faults.ClientKnown no_call
  reacted_in (Err faults.TooManyPackets) no_call = refused faults.TooManyPackets no_call
  reacted_in (Err (faults.Client fault)) no_call = refused (faults.Client fault) no_call

abbrev pub tree_view : BTreeMap ℕ Member → Members
tree_view t = from_entries t.entries
