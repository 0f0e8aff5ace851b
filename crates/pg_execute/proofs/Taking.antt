-- What a message does where the rest of a reply is taken.
use Rattle.std.proofs.Common.{◌≡◌, List, [], ◌∷◌, Bool, true, false, ◌||◌, if◌then◌else◌, Option, Result, Ok, refl, sym, ap, subst, ◌∙◌}
use Rattle.pg_spec.specs.RawMessages.{RawMessage}
use Rattle.pg_types.specs.declared.error.Error.{Error}
use Rattle.pg_query.specs.declared.desk_call.Cleanup.TheVariants.{Release}
use Rattle.pg_query.specs.Dialogue.{Dialogue, Answer, HangUp, Read, feed_one}
use Rattle.pg_query.specs.Scripts.{GoesOn, IsMessage, IsRead, cleanup_of, waiting_at}
use Rattle.pg_query.specs.declared.script.Action.TheVariants as act
use Rattle.pg_query.specs.declared.script.Want.TheVariants as want
use Rattle.pg_execute.specs.Typed.{has_ended, is_end, told_or}
use Rattle.pg_execute.specs.declared.got.Got.{Got}
use Rattle.pg_execute.specs.Rests.{Takes, rest_at, rest_from, rest_refuses, rest_told, takes_by}
use Rattle.pg_execute.specs.declared.takes_rest.TakesRest.{TakesRest}

-- ---- what the script wants

-- where the request isn't hung up, it reads
pub reads-rest : (s : TakesRest) → s.ended ≡ false → GoesOn rest_at rest_refuses (λ s. waiting_at (rest_at s)) (rest_at s) want.Read s
reads-rest s e = record {
  is = refl;
  wanted = record {
    waiting = subst (λ (b : Bool). IsMessage (waiting_at (rest_from b s))) (sym e) tt;
    there = subst (λ (b : Bool). IsRead (rest_from b s)) (sym e) tt;
  };
}

-- what is left to do while it reads
pub rest-left : (s : TakesRest) → IsMessage (waiting_at (rest_at s)) → Release ∷ [] ≡ cleanup_of (rest_at s)
rest-left s h = by s.ended h
  where
    by : (b : Bool) → IsMessage (waiting_at (rest_from b s)) → Release ∷ [] ≡ cleanup_of (rest_from b s)
    by true h = absurd h
    by false h = refl

-- a message, by whether it ends the reply
fed : (told : List RawMessage → Option (Result Got Error)) (raw : RawMessage) (b : Bool) → is_end raw ≡ b →
    feed_one raw (takes_by told) ≡ (if b || false then HangUp (Answer (Ok (told_or (told (raw ∷ []))))) else Read (Release ∷ []) (λ ms. b || has_ended ms) (λ ms. HangUp (Answer (Ok (told_or (told (raw ∷ ms)))))))
fed told raw b e =
    ap (λ (x : Bool). let d : Dialogue (Result Got Error) = if x || false then HangUp (Answer (Ok (told_or (told (raw ∷ []))))) else Read (Release ∷ []) (λ ms. x || has_ended ms) (λ ms. HangUp (Answer (Ok (told_or (told (raw ∷ ms)))))) in d) e

module _ (old new : TakesRest) (raw : RawMessage) (takes : Takes old raw new) where
  -- it goes on
  goes-false : is_end raw ≡ false → takes_by (rest_told new) ≡ feed_one raw (takes_by (rest_told old))
  goes-false e =
      sym (fed (rest_told old) raw false e ∙ (λ i. Read (Release ∷ []) has_ended (λ ms. HangUp (Answer (Ok (told_or (takes.later ms i)))))))

  pub takes-more : (b : Bool) → old.ended ≡ b → new.ended ≡ old.ended → IsMessage (waiting_at (rest_from b old)) → is_end raw ≡ false →
      GoesOn rest_at rest_refuses (λ s. waiting_at (rest_at s)) (feed_one raw (rest_from b old)) want.Read new
  takes-more true is same h e = absurd h
  takes-more false is same h e = record {
    is = ap (λ (b : Bool). rest_from b new) (same ∙ is) ∙ goes-false e;
    wanted = record {
      waiting = subst (λ (b : Bool). IsMessage (waiting_at (rest_from b new))) (sym (same ∙ is)) tt;
      there = subst (λ (b : Bool). IsRead (rest_from b new)) (sym (same ∙ is)) tt;
    };
  }

  -- it was the last, and the request is hung up
  pub takes-last : (b : Bool) → IsMessage (waiting_at (rest_from b old)) → is_end raw ≡ true →
      GoesOn rest_at rest_refuses (λ s. waiting_at (rest_at s)) (feed_one raw (rest_from b old)) (want.Act act.HangUp) (record new { ended = true })
  takes-last true h e = absurd h
  takes-last false h e = record {
    is = sym (fed (rest_told old) raw true e ∙ (λ i. HangUp (Answer (Ok (sym takes.told i)))));
    wanted = tt;
  }
