-- A link that tells its course, and was in course when a call began, is a session over that server.
use Rattle.std.proofs.Common.{◌≡◌, ℕ, List, ◌++◌, Option, Some, None, refl, sym, ap, ◌∙◌, subst, append_assoc, append-nil, [], length, drop}
use Rattle.std.proofs.lemmas.Option.{same_Some, none-some}
use Rattle.std.proofs.lemmas.List.{drop_at}
use Rattle.std.proofs.lemmas.Grind.{flat_map-append}
use Rattle.pg_spec.specs.RawMessages.{messages, message_bytes, bytes_left}
use Rattle.pg_spec.proofs.MessageLaws.{messages-append}
use Rattle.pg_machine.specs.Courses.{from_here}
use Rattle.pg_machine.proofs.ServingLaws.{served-append}
use Rattle.std.specs.Prelude.{IfSome, option_map}
use Rattle.pg_spec.specs.Links.{LinkView}
use Rattle.pg_wire.specs.LinkCalls.{Keeps, KeepsCourse, TakesOn, IsInCourse}
use Rattle.pg_machine.specs.Serving.{Service, Serving, Replied, served, in_front}
use Rattle.pg_machine.specs.Sessions.{gives, spoken, IsOver}

abbrev in_course : Option (List ℕ → List ℕ) → (given taken due : Option (List ℕ)) → Type 0
in_course course given taken due = IfSome course (λ course. IfSome given (λ given. IfSome taken (λ taken. IfSome due (λ due. given ++ due ≡ course taken))))

-- ---- a course that isn't told from the beginning

-- where more bytes are fed, all that is given from there is what was given from here
pub from_here-fed : {S : Type 0} (service : Service S) (said taken left b rest : List ℕ) (at : Serving S) →
    from_here service (said ++ spoken (served service at (messages (left ++ b))).reply) (taken ++ b) (served service at (messages (left ++ b))).next (bytes_left (left ++ b)) ((taken ++ b) ++ rest)
    ≡ from_here service said taken at left ((taken ++ b) ++ rest)
from_here-fed {S = S} service said taken left b rest at =
    let first : Replied S = served service at (messages (left ++ b)) in
    let behind : drop (length (taken ++ b)) ((taken ++ b) ++ rest) ≡ rest = drop_at (taken ++ b) rest (length (taken ++ b)) refl in
    let here : drop (length taken) ((taken ++ b) ++ rest) ≡ b ++ rest
    = ap (drop (length taken)) (append_assoc taken b rest) ∙ drop_at taken (b ++ rest) (length taken) refl in
    let second : Replied S = served service first.next (messages (bytes_left (left ++ b) ++ rest)) in
    let all : served service at (messages (left ++ (b ++ rest))) ≡ in_front first.reply second
    = ap (λ bytes. served service at (messages bytes)) (sym (append_assoc left b rest)) ∙ ap (served service at) (messages-append (left ++ b) rest)
    ∙ served-append service at (messages (left ++ b)) (messages (bytes_left (left ++ b) ++ rest)) in
    ap (λ bytes. (said ++ spoken first.reply) ++ spoken (served service first.next (messages (bytes_left (left ++ b) ++ bytes))).reply) behind
    ∙ append_assoc said (spoken first.reply) (spoken second.reply)
    ∙ ap (λ r. said ++ r) (sym (flat_map-append message_bytes first.reply second.reply))
    ∙ ap (λ (r : Replied S). said ++ spoken r.reply) (sym all)
    ∙ ap (λ bytes. said ++ spoken (served service at (messages (left ++ bytes))).reply) (sym here)

-- so it is enough that a call keeps the course from here on
pub kept-IsOver : {S : Type 0} (service : Service S) (begins : S) (bytes given taken due : List ℕ) (old new : LinkView) →
    old.course ≡ Some (gives service begins bytes) → KeepsCourse old new → IsInCourse new →
    new.given ≡ Some given → new.taken ≡ Some taken → new.due ≡ Some due → IsOver service begins bytes given taken
kept-IsOver service begins bytes given taken due old new told keeps now g t d = record { due = due; in_all = by_course new.course same in_now }
  where
    on : TakesOn new taken
    on = subst (λ (x : Option (List ℕ)). IfSome x (λ seen. (rest : List ℕ) × (seen ++ rest ≡ taken))) (sym t) ([], append-nil taken)

    same : option_map (λ course. course taken) new.course ≡ Some (gives service begins bytes taken)
    same = (keeps taken on).1 ∙ ap (λ (c : Option (List ℕ → List ℕ)). option_map (λ course. course taken) c) told

    in_now : in_course new.course (Some given) (Some taken) (Some due)
    in_now =
        subst (λ (x : Option (List ℕ)). in_course new.course (Some given) (Some taken) x) d
        (subst (λ (x : Option (List ℕ)). in_course new.course (Some given) x new.due) t
        (subst (λ (x : Option (List ℕ)). in_course new.course x new.taken new.due) g now))

    by_course : (o : Option (List ℕ → List ℕ)) → option_map (λ course. course taken) o ≡ Some (gives service begins bytes taken) →
        in_course o (Some given) (Some taken) (Some due) → given ++ due ≡ gives service begins bytes taken
    by_course None e h = absurd (none-some (gives service begins bytes taken) e)
    by_course (Some c) e h = h ∙ same_Some (c taken) (gives service begins bytes taken) e

-- a link that was in course, and kept it
pub course-IsOver : {S : Type 0} (service : Service S) (begins : S) (bytes given taken due : List ℕ) (old new : LinkView) →
    old.course ≡ Some (gives service begins bytes) → IsInCourse old → Keeps old new →
    new.given ≡ Some given → new.taken ≡ Some taken → new.due ≡ Some due → IsOver service begins bytes given taken
course-IsOver service begins bytes given taken due old new told was keeps g t d =
    kept-IsOver service begins bytes given taken due old new told keeps.course (keeps.in_course was) g t d
