-- Texts that are well made.
use Rattle.std.proofs.Common.{◌≡◌, ℕ, ◌+◌, ◌≤◌, List, [], take, refl, arith, codes}
use Rattle.std.specs.List.{concat}
use Rattle.std.proofs.lemmas.List.Elements.{All-from_recursion}
use Rattle.std.specs.Prelude.{IsTrue, ◌||◌}
use Rattle.std.specs.Str.{is_utf8, chars}
use lib.Utf8.{encode}
use Rattle.pg_spec.specs.Settings.{only_user}
use Rattle.pg_promises.specs.Examples.{good_plan, good_text}
use Rattle.pg_promises.specs.Promises.{AnswersRequests, AnswersStartup, IsFront, IsValid, requests_in}
use Rattle.pg_spec.specs.RawMessages.{bytes_left, is_async, is_parameter}
use Rattle.pg_spec.specs.Sent.{turns_given}
use Rattle.pg_spec.specs.SessionText.{SessionText}
use Rattle.pg_promises.proofs.WorkedPlans.{only_first, replies_all}
use Rattle.pg_promises.proofs.WorkedStrings.{means_a}
use Rattle.pg_text.specs.Sessions.{as_session}
use Rattle.pg_text.specs.declared.command.Command.{Command}
use Rattle.pg_promises.specs.Calls.{Call, apart}
use Rattle.pg_promises.specs.Sent as any
use Rattle.pg_promises.proofs.NoFlush.{answers}
use Rattle.pg_session.proofs.Complete.Course.{few-frames}
use Rattle.pg_session.specs.Speeches.{meaning_of}
use Rattle.pg_table.specs.Table.{table}
use Rattle.pg_table.proofs.Headlines.{sent-as-before}
use Rattle.pg_gen.specs.Laws.{plan_of}
use Rattle.pg_tool.specs.RunContract.{AnswersAllSent, IsSimplyMade, IsWellMade, call_of, new_link, simple_call_of}
use Rattle.pg_tool.proofs.AskedFew.{asks-few}
use Rattle.pg_tool.proofs.AtTable.{no-flush}

-- ---- a text of simple queries alone

module _ (text : SessionText) (made : IsSimplyMade text) where
  abbrev own : Call Command
  own = call_of (as_session text) (new_link (as_session text))

  same_valid : IsValid (apart own) made.settings (plan_of text)
  same_valid = record {
    user = made.valid.user;
    nonce = made.valid.nonce;
    frame = made.valid.frame;
    no_tls = made.valid.no_tls;
    no_binding = made.valid.no_binding;
    limit = made.valid.limit;
  }

  abbrev same_opens : AnswersStartup (apart own) made.settings (plan_of text)
  same_opens = record {
    untroubled = made.opens.untroubled;
    whole = made.opens.whole;
    frames = made.opens.frames;
    started = made.opens.started;
    each_frame = made.opens.each_frame;
    all_frames = made.opens.all_frames;
    readable = made.opens.readable;
  }

  -- what was sent gave no more turns than the startup has frames, and the text requests
  few_turns : (given taken : List ℕ) → IsFront given (concat (take (turns_given taken) text.plan)) → any.SentInOrder (meaning_of table) own made.settings given taken →
      turns_given taken ≤ made.opens.frames + requests_in text.scripts
  few_turns given taken front sent =
      let few = asks-few (simple_call_of text (new_link (as_session text))) made.settings given taken made.valid.no_tls (sent-as-before own text.scripts made.settings given taken refl sent) in
      let most = few-frames (simple_call_of text (new_link (as_session text))) made.settings (plan_of text) taken given made.opens front in
      omega (arith, few, most)

  answers_all : AnswersAllSent own made.settings (plan_of text) made.opens.frames
  answers_all given taken front sent = answers (plan_of text) made.opens.frames taken (no-flush own made.settings given taken made.valid.no_tls sent)
      (made.conforms taken (few_turns given taken front sent))

  pub made_simply : IsWellMade (as_session text)
  made_simply = record {
    settings = made.settings;
    means = made.means;
    valid = same_valid;
    opens = same_opens;
    answers = answers_all;
  }

-- ---- one of them

valid : IsValid (simple_call_of good_text (new_link (as_session good_text))) (only_user (codes "a")) (plan_of good_text)
unfolding is_utf8 chars encode
valid = record { user = refl; nonce = refl; frame = refl; no_tls = λ e. cc; no_binding = λ e. cc; limit = omega arith }

opens : AnswersStartup (simple_call_of good_text (new_link (as_session good_text))) (only_user (codes "a")) (plan_of good_text)
unfolding is_utf8 chars encode
opens = record {
  untroubled = refl;
  whole = All-from_recursion (λ entry. bytes_left entry ≡ []) good_plan.entries (refl, (refl, tt));
  frames = 1;
  started = (2, refl, All-from_recursion (λ m. IsTrue (is_async m || is_parameter m)) [] tt);
  each_frame = only_first _ refl;
  all_frames = refl;
  readable = refl;
}

conforms : (taken : List ℕ) → turns_given taken ≤ 2 → AnswersRequests (plan_of good_text) 1 taken
conforms taken few = record { entries = few; replies = replies_all (turns_given taken) few }

-- its scripts ask one request
one_request : requests_in good_text.scripts ≡ 1
unfolding is_utf8 chars encode
one_request = refl

simply_made : IsSimplyMade good_text
unfolding opens
simply_made = record {
  settings = only_user (codes "a");
  means = means_a;
  valid = valid;
  opens = opens;
  conforms = λ taken few. conforms taken (omega (arith, few, one_request));
}

pub well_made : IsWellMade (as_session good_text)
well_made = made_simply good_text simply_made
