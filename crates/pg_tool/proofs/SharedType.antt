-- A text whose commands share a type that is looked up is well made.
use Rattle.std.proofs.Common.{◌≡◌, ℕ, zero, suc, ◌+◌, ◌-◌, ◌≤◌, List, [], ◌∷◌, ◌++◌, length, take, drop, inl, inr, refl, sym, ap, subst, ◌∙◌, arith, codes}
use Rattle.std.specs.Prelude.{All, IsTrue, ◌||◌}
use Rattle.std.specs.List.{concat}
use Rattle.std.specs.Fmt.{digits}
use Rattle.std.specs.Str.{is_utf8, chars}
use lib.Utf8.{encode}
use lib.Seq.{drop-append-le}
use Rattle.std.proofs.lemmas.List.Elements.{All-from_recursion, All-nil, All-take}
use Rattle.pg_spec.specs.Examples.{accepted}
use Rattle.pg_spec.specs.Links.{Plan}
use Rattle.pg_spec.specs.Meanings.{Meaning}
use Rattle.pg_spec.specs.RawMessages.{RawMessage, bytes_left, groups, is_async, is_parameter, messages}
use Rattle.pg_spec.specs.Sent.{turns_given}
use Rattle.pg_spec.specs.Settings.{Settings, only_user}
use Rattle.pg_spec.specs.Startup.{Done, Outcome, session_part, startup, used_of}
use Rattle.pg_spec.proofs.GroupLaws.{AreFronts, groups-AreFronts}
use Rattle.pg_promises.specs.Calls.{Call, apart}
use Rattle.pg_promises.specs.Causes.{startup_after}
use Rattle.pg_promises.specs.Completeness as any
use Rattle.pg_promises.specs.Promises.{AnswersRequests, AnswersStartup, IsFront, IsOneReply, IsValid}
use Rattle.pg_promises.specs.Sent.{SentInOrder, course_so_far}
use Rattle.pg_promises.proofs.NoFlush.{answers}
use Rattle.pg_promises.proofs.WorkedPlans.{only_first}
use Rattle.pg_promises.proofs.WorkedStrings.{means_a}
use Rattle.pg_query.specs.declared.desk_call.DeskCall.{DeskCall}
use Rattle.pg_query.specs.declared.desk_call.Reply.{Reply}
use Rattle.pg_session.specs.Speeches.{meaning_of}
use Rattle.pg_session.proofs.Complete.Bytes.{IsWhole, front-of, messages-behind, split-concat}
use Rattle.pg_session.proofs.Complete.Course.{few-frames}
use Rattle.pg_session.proofs.Complete.Start.{done-later, used-within}
use Rattle.pg_table.specs.declared.own.Own.{Own}
use Rattle.pg_table.specs.Table.{table}
use Rattle.pg_table.proofs.SimpleMeans.{book-whole}
use Rattle.pg_text.specs.declared.command.Answer.{Answer}
use Rattle.pg_text.specs.declared.command.Command.{Command}
use Rattle.pg_text.specs.declared.command.Command.TheVariants.{Prepare}
use Rattle.pg_tool.specs.RunContract.{AnswersAllSent, IsWellMade, call_of, new_link, plan_of}
use Rattle.pg_tool.specs.Worked.{described, finder_described, found, shared_text}
use Rattle.pg_tool.proofs.AtTable.{no-flush}
use Rattle.pg_tool.proofs.Handled.{AsksFew, few-alone, foreseen_of}
use Rattle.pg_tool.proofs.Wholly.{wholly-few}

-- ---- what is foreseen of two commands

module _ {C A E Q R : Type 0} (meaning : Meaning C A E Q R) (replies : List (List RawMessage)) (c d : C) where
  abbrev first_asks : List Q
  first_asks = (foreseen_of meaning [] replies meaning.begins c).asked

  -- of the first so many requests, and of the second so many, whatever the script keeps of the first
  two-ask : (m n : ℕ) → length (foreseen_of meaning [] replies meaning.begins c).requests ≡ m →
      ((own : E) → length (foreseen_of meaning first_asks (drop m replies) own d).requests ≡ n) → AsksFew meaning [] replies meaning.begins (c ∷ d ∷ []) (m + n)
  two-ask m n first second = (
    omega (arith, first),
    λ ending e. (
      subst (λ (k : ℕ). length (foreseen_of meaning first_asks (drop k replies) ending.own d).requests ≤ (m + n) - k) (sym first)
          (let s = second ending.own in omega (arith, s)),
      λ last f. tt,
    ),
  )

-- ---- the text

-- its call, over its own link
abbrev own : Call Command
own = call_of shared_text (new_link shared_text)

abbrev settings : Settings
settings = only_user (codes "a")

abbrev plan : Plan
plan = plan_of shared_text

-- the replies to its requests
abbrev replied : List (List ℕ)
replied = described ∷ finder_described ∷ found ∷ described ∷ []

abbrev replies : List (List RawMessage)
replies = groups (messages (concat replied))

abbrev meaning : Meaning Command Answer Own DeskCall Reply
meaning = meaning_of table

-- The first is described, and its type looked up by a statement that is described and executed: three requests. The second is described.
three : length (foreseen_of meaning [] replies meaning.begins (Prepare 0 (codes "a") [])).requests ≡ 3
unfolding digits is_utf8 chars encode
three = refl

one : (own : Own) → length (foreseen_of meaning (first_asks meaning replies (Prepare 0 (codes "a") []) (Prepare 1 (codes "b") [])) (drop 3 replies) own (Prepare 1 (codes "b") [])).requests ≡ 1
unfolding digits is_utf8 chars encode
one own = refl

four : AsksFew meaning [] replies meaning.begins (Prepare 0 (codes "a") [] ∷ Prepare 1 (codes "b") [] ∷ []) 4
four = two-ask meaning replies (Prepare 0 (codes "a") []) (Prepare 1 (codes "b") []) 3 1 three one

valid : IsValid (apart own) settings plan
unfolding is_utf8 chars encode
valid = record { user = refl; nonce = refl; frame = refl; no_tls = λ e. cc; no_binding = λ e. cc; limit = omega arith }

opens : AnswersStartup (apart own) settings plan
unfolding is_utf8 chars encode
opens = record {
  untroubled = refl;
  whole = All-from_recursion (λ entry. bytes_left entry ≡ []) plan.entries (refl, (refl, (refl, (refl, (refl, tt)))));
  frames = 1;
  started = (2, refl, All-from_recursion (λ m. IsTrue (is_async m || is_parameter m)) [] tt);
  each_frame = only_first _ refl;
  all_frames = refl;
  readable = refl;
}

one_frame : opens.frames ≡ 1
unfolding opens
one_frame = refl

-- each of its entries behind the startup's is a reply
each_replies : All IsOneReply replied
each_replies = All-from_recursion IsOneReply replied ((refl, refl), ((refl, refl), ((refl, refl), ((refl, refl), tt))))

replies_all : (n : ℕ) → All IsOneReply (drop 1 (take n plan.entries))
replies_all zero = All-nil IsOneReply
replies_all (suc n) = All-take IsOneReply n replied each_replies

conforms : (taken : List ℕ) → turns_given taken ≤ 5 → AnswersRequests plan 1 taken
conforms taken few = record { entries = few; replies = replies_all (turns_given taken) }

-- ---- what its session may have sent

accepted_whole : IsWhole accepted
accepted_whole = refl

two_messages : (behind : List RawMessage) → drop 2 (messages accepted ++ behind) ≡ behind
two_messages behind = refl

started : (startup settings own.nonce (messages accepted)).outcome ≡ Done 2
unfolding is_utf8 chars encode
started = refl

split : messages (concat plan.entries) ≡ messages accepted ++ messages (concat replied)
split = messages-behind accepted (concat replied) accepted_whole

module _ (given taken : List ℕ) (front : IsFront given (concat (take (turns_given taken) plan.entries))) where
  abbrev rest : List ℕ
  rest = concat (drop (turns_given taken) plan.entries)

  -- what it was given is a front of all that its plan gives
  in-plan : (more : List RawMessage) × (messages given ++ more ≡ messages accepted ++ messages (concat replied))
  in-plan =
      let f = front-of given (front.0 ++ rest) (concat plan.entries)
      (sym (append-three given front.0 rest) ∙ ap (λ (l : List ℕ). l ++ rest) front.1 ∙ split-concat (turns_given taken) plan.entries) in
      (f.more, sym f.is ∙ split)
    where
      append-three : (xs ys zs : List ℕ) → (xs ++ ys) ++ zs ≡ xs ++ (ys ++ zs)
      append-three [] ys zs = refl
      append-three (x ∷ xs) ys zs = ap (λ (l : List ℕ). x ∷ l) (append-three xs ys zs)

  module _ (used : ℕ) (done : (startup settings own.nonce (messages given)).outcome ≡ Done used) where
    two : used ≡ 2
    two = ap used_of (sym (done-later settings own.nonce (messages given) in-plan.0 used done)
        ∙ ap (λ (ms : List RawMessage). (startup settings own.nonce ms).outcome) in-plan.1
        ∙ done-later settings own.nonce (messages accepted) (messages (concat replied)) 2 started)

    behind : drop used (messages given) ++ in-plan.0 ≡ messages (concat replied)
    behind = sym (drop-append-le used (messages given) in-plan.0 (used-within settings own.nonce (messages given) used done))
        ∙ ap (drop used) in-plan.1 ∙ ap (λ (n : ℕ). drop n (messages accepted ++ messages (concat replied))) two ∙ two_messages (messages (concat replied))

    part : session_part settings own.nonce (messages given) ≡ drop used (messages given)
    part = ap (λ (o : Outcome). drop (used_of o) (messages given)) done

    -- its replies came each so far
    fronts : AreFronts (groups (session_part settings own.nonce (messages given))) replies
    fronts = subst (λ (ms : List RawMessage). AreFronts (groups ms) replies) (sym part)
        (subst (λ (ms : List RawMessage). AreFronts (groups (drop used (messages given))) (groups ms)) behind (groups-AreFronts (drop used (messages given)) in-plan.0))

  few_turns : SentInOrder meaning own settings given taken → turns_given taken ≤ 5
  few_turns sent = elim (wholly-few table book-whole own settings given taken valid.no_tls sent) [
    | inl few ↦ omega (arith, few, most, one_frame)
    | inr (over, few) ↦
        let less = few-alone meaning (Prepare 0 (codes "a") [] ∷ Prepare 1 (codes "b") [] ∷ []) (course_so_far own settings given sent.book sent.asked) sent.order
        replies (fronts over.0 over.1) 4 four in
        omega (arith, few, most, less, one_frame)
  ]
    where
      most : length (startup_after (apart own) settings given).frames ≤ opens.frames
      most = few-frames (apart own) settings plan taken given opens front

answers_all : AnswersAllSent own settings plan opens.frames
answers_all given taken front sent =
    subst (λ (n : ℕ). any.AnswersRequests plan n taken) (sym one_frame)
    (answers plan 1 taken (no-flush own settings given taken valid.no_tls sent) (conforms taken (few_turns given taken front sent)))

pub shared_well_made : IsWellMade shared_text
shared_well_made = record {
  settings = settings;
  means = means_a;
  valid = valid;
  opens = opens;
  answers = answers_all;
}
