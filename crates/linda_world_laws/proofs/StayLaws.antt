-- What a server is asked leaves it sound, and what was reported and earned stays so while deeds stay.
use Rattle.std.proofs.Common.{◌≡◌, ◌≢◌, ℕ, true, true≢false, List, [], ◌∷◌, ◌++◌, Contains}
use Rattle.std.proofs.Common.{slice_get, refl, sym, ap, ◌∙◌, subst, append-nil, append_assoc}
use Rattle.std.specs.Prelude.{Result, Ok, Err}
use Rattle.std.proofs.lemmas.List.Elements.{All-nil, All-cons, Contains-append_left}
use Rattle.linda_wire.specs.declared.message.Message.{Message}
use Rattle.linda_wire.specs.declared.reply.Reply.{Reply}
use Rattle.linda_wire.specs.declared.refusal.Refusal.TheVariants as refusals
use Rattle.linda_wire.specs.Refusal.{refused}
use Rattle.linda_store_state.specs.declared.deed.Deed.{Deed}
use Rattle.linda_store_state.specs.declared.deed.Deed.TheVariants.{Take}
use Rattle.linda_store_state.specs.Deed as deeds
use Rattle.linda_store_step.specs.History.{says}
use Rattle.linda_store_step.specs.Replies.{reports_deed, ReportsOne}
use Rattle.linda_store.specs.declared.node.NodeFault.{NodeFault}
use Rattle.linda_store.specs.declared.node.NodeFault.TheVariants as faults
use Rattle.linda_store.specs.Node.{Node, NodeAnswer, Sent, IsFull, IsDown, Works, Closes}
use Rattle.linda_store.specs.Sound.{IsSound, AreBacked}
use Rattle.linda_client.specs.Client.{Client}
use Rattle.linda_world_laws.specs.declared.packet.Body.{Body}
use Rattle.linda_world_laws.specs.declared.packet.Body.TheVariants as bodies
use Rattle.linda_world_laws.specs.World.{World}
use Rattle.linda_world_laws.specs.Steps.{Task, Takes, HangsUp, Saves, Halts, silent, Does, sends_of}
use Rattle.linda_world_laws.specs.Promises.{OfServer, DeedsStay, IsBacked}
use Rattle.linda_world_laws.specs.Honest.{IsEarned}
use Rattle.linda_world_laws.specs.Below.{OfSound}

-- nothing that is reported, and what is sent if there is no room
backed_none : (ds : List Deed) → AreBacked ds []
backed_none ds = All-nil (λ (send : ℕ × Reply). reports_deed send.1 ≡ true → ReportsOne ds send.0 send.1)

backed_full : (ds : List Deed) (c : ℕ) → AreBacked ds ((c, refused refusals.Full) ∷ [])
backed_full ds c = All-cons (λ (send : ℕ × Reply). reports_deed send.1 ≡ true → ReportsOne ds send.0 send.1)
    (c, refused refusals.Full) [] (λ tells. absurd (true≢false (sym tells))) (backed_none ds)

silent_sends : {A : Type 0} (task : Task) (result : Result A NodeFault) → sends_of task IsFull ≡ [] → sends_of task (silent result) ≡ []
silent_sends task (Ok done) none = refl
silent_sends task (Err faults.Full) none = none
silent_sends task (Err faults.Down) none = refl

-- What a server is asked leaves it sound, and what it sends reports only its deeds.
module _ (laws : OfSound) (ds es : List Deed) (old new : Node) (answer : NodeAnswer) (sound : IsSound ds old) where
  pub does_sound : (task : Task) → Does task old answer es new → IsSound (ds ++ es) new
  does_sound (Takes c m) does = laws.works ds es old new (says c m ∷ []) answer sound does
  does_sound (HangsUp c) does = subst (λ l. IsSound l new) (sym (ap (λ l. ds ++ l) does.1 ∙ append-nil ds)) (laws.closes ds old new c answer sound does.0)
  does_sound Saves does = subst (λ l. IsSound l new) (sym (ap (λ l. ds ++ l) does.1.1.1 ∙ append-nil ds)) (laws.snaps ds old new does.0 sound does.1.0)
  does_sound (Halts xs) does = subst (λ l. IsSound (ds ++ l) new) (sym does.1.1.1) (laws.stops ds old new xs does.0 sound does.1.0)

  silent_backed : (sends : List (ℕ × Reply)) → sends ≡ [] → AreBacked (ds ++ es) sends
  silent_backed sends none = subst (AreBacked (ds ++ es)) (sym none) (backed_none (ds ++ es))

  pub does_backed : (task : Task) → Does task old answer es new → AreBacked (ds ++ es) (sends_of task answer)
  does_backed (Takes c m) does = by answer does
    where
      by : (a : NodeAnswer) → Works old (says c m ∷ []) a es new → AreBacked (ds ++ es) (sends_of (Takes c m) a)
      by (Sent sends) done = laws.works_backed ds es old new (says c m ∷ []) sends sound done
      by IsFull none = backed_full (ds ++ es) c
      by IsDown went = backed_none (ds ++ es)
  does_backed (HangsUp c) does = by answer does.0
    where
      by : (a : NodeAnswer) → Closes old c a new → AreBacked (ds ++ es) (sends_of (HangsUp c) a)
      by (Sent sends) done = subst (λ l. AreBacked l sends) (sym (ap (λ l. ds ++ l) does.1 ∙ append-nil ds)) (laws.closes_backed ds old new c sends sound done)
      by IsFull never = absurd never
      by IsDown went = backed_none (ds ++ es)
  does_backed Saves does = silent_backed (sends_of Saves answer) (ap (sends_of Saves) does.1.1.0 ∙ silent_sends Saves does.0 refl)
  does_backed (Halts xs) does = silent_backed (sends_of (Halts xs) answer) (ap (sends_of (Halts xs)) does.1.1.0 ∙ silent_sends (Halts xs) does.0 refl)

-- What was reported and earned stays so while deeds stay.
module _ (w new : World) (stay : DeedsStay w new) where
  of_server_still : (P : List Deed → Type 0) → ((ds more : List Deed) → P ds → P (ds ++ more)) → (s : ℕ) → OfServer w.servers s P → OfServer new.servers s P
  of_server_still P more s old =
      let now = stay s old.0 old.1.0 in
      (now.0, (now.1.0, subst P (sym now.1.1.1) (more old.0.deeds now.1.1.0 old.1.1)))

  pub backed_still : (s c : ℕ) (body : Body) → IsBacked w.servers s c body → IsBacked new.servers s c body
  backed_still s c (bodies.Message m) old = tt
  backed_still s c (bodies.Reply r) old = λ tells. of_server_still (λ ds. ReportsOne ds c r) later s (old tells)
    where
      later : (ds more : List Deed) → ReportsOne ds c r → ReportsOne (ds ++ more) c r
      later ds more is = record {
        before = is.before;
        deed = is.deed;
        later = is.later ++ more;
        parts = ap (λ l. l ++ more) is.parts ∙ append_assoc is.before (is.deed ∷ is.later) more;
        client = is.client;
        reply = is.reply;
      }

  pub earned_still : (c : ℕ) (client : Client) (pair : ℕ × ℕ) → IsEarned w.servers c client pair → IsEarned new.servers c client pair
  earned_still c client pair old =
      let now = stay pair.0 old.server old.there in
      record {
        server = now.0;
        there = now.1.0;
        number = old.number;
        taken = subst (λ l. Contains l (Take c old.number pair.1)) (sym now.1.1.1)
            (Contains-append_left old.server.deeds now.1.1.0 (Take c old.number pair.1) old.taken);
        used = old.used;
        over = old.over;
      }

pub same_stay : (w new : World) → new.servers ≡ w.servers → DeedsStay w new
same_stay w new same s old there = (old, (ap (λ l. slice_get l s) same ∙ there, ([], sym (append-nil old.deeds))))
