-- What a script inside a search wants, hears and reads is so in the search.
use Rattle.std.proofs.Common.{◌≡◌, List, [], ◌∷◌, Bool, true, false, if◌then◌else◌, Result, refl, sym, ◌∙◌, ap, subst, append-nil}
use Rattle.pg_spec.specs.RawMessages.{RawMessage}
use Rattle.pg_types.specs.declared.error.Error.{Error}
use Rattle.pg_query.specs.declared.desk_call.Cleanup.{Cleanup}
use Rattle.pg_query.specs.declared.desk_call.DeskCall.{DeskCall}
use Rattle.pg_query.specs.declared.desk_call.Reply.{Reply}
use Rattle.pg_query.specs.declared.script.Want.TheVariants as want
use Rattle.pg_query.specs.declared.script.Action.{Action}
use Rattle.pg_query.specs.declared.script.Action.TheVariants as act
use Rattle.pg_query.specs.Dialogue.{Dialogue, Answer, Ask, Send, Leave, Read, Put, Finish, Close, HangUp, Call, Hear, feed_one}
use Rattle.pg_query.specs.Scripts.{Waiting, Nothing, AMessage, AReply, IsMessage, IsReply, IsRead, IsHear, heard, GoesOn, cleanup_of}
use Rattle.pg_core.specs.Behind.{behind}
use Rattle.pg_core.specs.Thens.{waits_through, read_through, hear_through}

-- one dialogue behind another
module _ {X T : Type 0} (f : Result X Error → Dialogue T) where
  call-inside : (q : DeskCall) (d c : Dialogue X) (refused : Error → Dialogue X) → IsHear c → Call q refused (λ r. heard r c) ≡ d →
      Call q (λ e. behind [] (refused e) f) (λ r. heard r (behind [] c f)) ≡ behind [] d f
  call-inside q d (Hear next) refused h e = ap (λ (x : Dialogue X). behind [] x f) e
  call-inside q d (Answer r) refused h e = absurd h
  call-inside q d (Ask copying part c) refused h e = absurd h
  call-inside q d (Send part denied c) refused h e = absurd h
  call-inside q d (Leave id c) refused h e = absurd h
  call-inside q d (Read cleanup decides next) refused h e = absurd h
  call-inside q d (Put cleanup part c) refused h e = absurd h
  call-inside q d (Finish part c) refused h e = absurd h
  call-inside q d (Close part c) refused h e = absurd h
  call-inside q d (HangUp c) refused h e = absurd h
  call-inside q d (Call p denied next) refused h e = absurd h

  message-waits : (d : Dialogue X) (w : Waiting d) → IsMessage w → IsMessage (waits_through [] f d w)
  message-waits d Nothing h = absurd h
  message-waits d (AMessage r) h = tt
  message-waits d (AReply r) h = absurd h

  reply-waits : (d : Dialogue X) (w : Waiting d) → IsReply w → IsReply (waits_through [] f d w)
  reply-waits d Nothing h = absurd h
  reply-waits d (AMessage r) h = absurd h
  reply-waits d (AReply r) h = tt

  -- The other way, and what that says of the script inside.
  pub message-inside : (d : Dialogue X) (w : Waiting d) → IsMessage (waits_through [] f d w) → IsMessage w
  message-inside d Nothing h = absurd h
  message-inside d (AMessage r) h = tt
  message-inside d (AReply r) h = absurd h

  pub reply-inside : (d : Dialogue X) (w : Waiting d) → IsReply (waits_through [] f d w) → IsReply w
  reply-inside d Nothing h = absurd h
  reply-inside d (AMessage r) h = absurd h
  reply-inside d (AReply r) h = tt

  fed-if : (b : Bool) (d c : Dialogue X) → (if b then behind [] d f else behind [] c f) ≡ behind [] (if b then d else c) f
  fed-if true d c = refl
  fed-if false d c = refl

  fed-there : (m : RawMessage) (d : Dialogue X) → IsRead d → feed_one m (behind [] d f) ≡ behind [] (feed_one m d) f
  fed-there m (Read cleanup decides next) h = fed-if (decides (m ∷ [])) (next (m ∷ [])) (Read cleanup (λ ms. decides (m ∷ ms)) (λ ms. next (m ∷ ms)))
  fed-there m (Answer r) h = absurd h
  fed-there m (Ask copying part d) h = absurd h
  fed-there m (Send part denied d) h = absurd h
  fed-there m (Leave id d) h = absurd h
  fed-there m (Put cleanup part d) h = absurd h
  fed-there m (Finish part d) h = absurd h
  fed-there m (Close part d) h = absurd h
  fed-there m (HangUp d) h = absurd h
  fed-there m (Call q denied next) h = absurd h
  fed-there m (Hear next) h = absurd h

  -- a message, where the script inside waits for it
  pub fed-inside : (m : RawMessage) (d : Dialogue X) (w : Waiting d) → IsMessage (waits_through [] f d w) → feed_one m (behind [] d f) ≡ behind [] (feed_one m d) f
  fed-inside m d Nothing h = absurd h
  fed-inside m d (AMessage r) h = fed-there m d r
  fed-inside m d (AReply r) h = absurd h

  heard-there : (r : Reply) (d : Dialogue X) → IsHear d → heard r (behind [] d f) ≡ behind [] (heard r d) f
  heard-there r (Hear next) h = refl
  heard-there r (Answer x) h = absurd h
  heard-there r (Ask copying part d) h = absurd h
  heard-there r (Send part denied d) h = absurd h
  heard-there r (Leave id d) h = absurd h
  heard-there r (Read cleanup decides next) h = absurd h
  heard-there r (Put cleanup part d) h = absurd h
  heard-there r (Finish part d) h = absurd h
  heard-there r (Close part d) h = absurd h
  heard-there r (HangUp d) h = absurd h
  heard-there r (Call q denied next) h = absurd h

  -- a reply, where the script inside waits for it
  pub heard-inside : (r : Reply) (d : Dialogue X) (w : Waiting d) → IsReply (waits_through [] f d w) → heard r (behind [] d f) ≡ behind [] (heard r d) f
  heard-inside r d Nothing h = absurd h
  heard-inside r d (AMessage x) h = absurd h
  heard-inside r d (AReply x) h = heard-there r d x

  -- what is left to do
  pub left-inside : (d : Dialogue X) (w : Waiting d) → IsMessage (waits_through [] f d w) → cleanup_of d ≡ cleanup_of (behind [] d f)
  left-inside d Nothing h = absurd h
  left-inside d (AMessage r) h = by d r
    where
      by : (d : Dialogue X) → IsRead d → cleanup_of d ≡ cleanup_of (behind [] d f)
      by (Read cleanup decides next) h = sym (append-nil cleanup)
      by (Answer x) h = absurd h
      by (Ask copying part d) h = absurd h
      by (Send part denied d) h = absurd h
      by (Leave id d) h = absurd h
      by (Put cleanup part d) h = absurd h
      by (Finish part d) h = absurd h
      by (Close part d) h = absurd h
      by (HangUp d) h = absurd h
      by (Call q denied next) h = absurd h
      by (Hear next) h = absurd h
  left-inside d (AReply r) h = absurd h

-- a script inside a state of the whole: where the state stands at the script's dialogue and another behind it
module _ {A X S T : Type 0} (first : A → Dialogue X) (first_refuses : A → Error → Dialogue X) (first_waits : (a : A) → Waiting (first a))
    (dialogue : S → Dialogue T) (refuses : S → Error → Dialogue T) (waits : (s : S) → Waiting (dialogue s)) where
  -- what such a state is
  pub record Holds (a : A) (f : Result X Error → Dialogue T) (s : S) : Type 0 where
    pub stands : dialogue s ≡ behind [] (first a) f
    pub denied : refuses s ≡ (λ e. behind [] (first_refuses a e) f)
    pub waiting : IsMessage (waits_through [] f (first a) (first_waits a)) → IsMessage (waits s)
    pub hears : IsReply (waits_through [] f (first a) (first_waits a)) → IsReply (waits s)

  pub acts-held : (a : A) (f : Result X Error → Dialogue T) (s : S) → Holds a f s → (d : Dialogue X) (x : Action) → GoesOn first first_refuses first_waits d (want.Act x) a → GoesOn dialogue refuses waits (behind [] d f) (want.Act x) s
  acts-held a f s h d (act.Ask copying part) g = record { is = ap (Ask copying part) h.stands ∙ ap (λ (c : Dialogue X). behind [] c f) g.is; wanted = tt }
  acts-held a f s h d (act.Send part) g = record { is = (λ i. Send part (h.denied i) (h.stands i)) ∙ ap (λ (c : Dialogue X). behind [] c f) g.is; wanted = tt }
  acts-held a f s h d (act.Put offer) g = record {
    is = ap (Put offer.cleanup.items offer.part) h.stands ∙ ap (λ (c : List Cleanup). Put c offer.part (behind [] (first a) f)) (sym (append-nil offer.cleanup.items)) ∙ ap (λ (c : Dialogue X). behind [] c f) g.is;
    wanted = tt;
  }
  acts-held a f s h d (act.Finish part) g = record { is = ap (Finish part) h.stands ∙ ap (λ (c : Dialogue X). behind [] c f) g.is; wanted = tt }
  acts-held a f s h d (act.Close part) g = record { is = ap (Close part) h.stands ∙ ap (λ (c : Dialogue X). behind [] c f) g.is; wanted = tt }
  acts-held a f s h d act.HangUp g = record { is = ap HangUp h.stands ∙ ap (λ (c : Dialogue X). behind [] c f) g.is; wanted = tt }
  acts-held a f s h d (act.Call q) g = record {
    is = (λ i. Call q (h.denied i) (λ r. heard r (h.stands i))) ∙ call-inside f q d (first a) (first_refuses a) g.wanted.there g.is;
    wanted = record {
      waiting = h.hears (reply-waits f (first a) (first_waits a) g.wanted.waiting);
      there = subst IsHear (sym h.stands) (hear_through [] f (first a) g.wanted.there);
    };
  }

  pub reads-held : (a : A) (f : Result X Error → Dialogue T) (s : S) → Holds a f s → (d : Dialogue X) → GoesOn first first_refuses first_waits d want.Read a → GoesOn dialogue refuses waits (behind [] d f) want.Read s
  reads-held a f s h d g = record {
    is = h.stands ∙ ap (λ (c : Dialogue X). behind [] c f) g.is;
    wanted = record {
      waiting = h.waiting (message-waits f (first a) (first_waits a) g.wanted.waiting);
      there = subst IsRead (sym h.stands) (read_through [] f (first a) g.wanted.there);
    };
  }

  -- where it answered
  pub answers-held : (f : Result X Error → Dialogue T) (a : A) (d : Dialogue X) (r : Result X Error) → GoesOn first first_refuses first_waits d (want.Answer r) a → f r ≡ behind [] d f
  answers-held f a d r g = ap (λ (c : Dialogue X). behind [] c f) g.is
