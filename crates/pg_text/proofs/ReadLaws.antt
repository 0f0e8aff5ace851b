-- A text is read line by line.
use Rattle.std.proofs.Common.{◌≡◌, ◌<◌, ◌≤◌, ◌+◌, ◌⊎◌, ℕ, Bool, false, true, List, [], ◌∷◌, ◌++◌, length, Option, Some, None, Result, Ok, Err, refl, sym, ap, subst, ◌∙◌, append_assoc, append-nil, inl, inr, arith, length-append}
use Rattle.std.specs.Prelude.{filter_map, flat_map}
use Rattle.std.specs.List.{AllZip, list_any, slice_split}
use Rattle.pg_spec.specs.SessionText.{default_nonce, one_or, AreLines}
use Rattle.pg_text.specs.SessionText.{ConfigLine, cut_of, is_end, is_handle, limit_of, nonce_of, step_of, turns_of, CanNotGoOn, IsRefusedAt, IsSessionText, Line, MayBegin, Say, SessionText, Spells}
use Rattle.pg_text.specs.declared.session.Session.{Session}
use Rattle.pg_text.specs.declared.session.TextFault.{TextFault}
use Rattle.pg_text.specs.declared.session.TextFault.TheVariants as fault
use Rattle.pg_text.specs.Drafts.{IsEmpty, ReadsOn, SoFar, Steps, session_so_far, with_entry, with_line, with_read}
use Rattle.pg_text.specs.Lines.{ReadsLine, Stands}
use Rattle.pg_text.specs.declared.line.Line as read
use Rattle.pg_text.specs.declared.line.Line.TheVariants as line
use Rattle.pg_text.specs.Levels.{KeepLevels}
use Rattle.pg_text.specs.Scripts.{most_scripts}
use Rattle.pg_text.specs.Sessions.{Finishes, ReadsText, session_of}
use Rattle.pg_text.specs.Texts.{lines_of}
use Rattle.pg_text.proofs.DraftLaws.{commands, Drafted, line_refused, line_said, may_begin, nothing_said, said_whole, same_scripts}
use Rattle.pg_text.proofs.LineLaws.{one_line, zip_more}
use Rattle.pg_text.proofs.TextLaws.{are_lines, lines_are}

-- the lines before the rest were read, and this is what they say
pub record HasRead (text rest : List ℕ) (n : ℕ) (s : SoFar) : Type 0 where
  pub before : List (List ℕ)
  pub lines : List Line
  pub text_lines : lines_of text ≡ before ++ lines_of rest
  pub each : AllZip Spells lines before
  pub drafted : Drafted lines s
  pub number : n ≡ length before + 1

pub starts : (text : List ℕ) (s : SoFar) → IsEmpty s → HasRead text text 1 s
starts text s h = record {
  before = [];
  lines = [];
  text_lines = refl;
  each = tt;
  drafted = inl (record { first = refl; config = h.config; nonce = h.nonce; limit = h.limit; cut = h.cut; ends = h.ends; turns = h.turns; plan = h.plan; scripts = h.scripts });
  number = refl;
}

pub goes_on : (text rest line behind : List ℕ) (n : ℕ) (s t : SoFar) → HasRead text rest n s → lines_of rest ≡ line ∷ lines_of behind → ReadsOn s line true t →
    HasRead text behind (n + 1) t
goes_on text rest line behind n s t h next (l, spells, with) = record {
  before = h.before ++ line ∷ [];
  lines = h.lines ++ l ∷ [];
  text_lines = h.text_lines ∙ ap (λ x. h.before ++ x) next ∙ sym (append_assoc h.before (line ∷ []) (lines_of behind));
  each = zip_more Spells h.lines h.before l line h.each spells;
  drafted = line_said h.lines s l t h.drafted with;
  number = omega (arith, h.number, length-append h.before (line ∷ []));
}

pub zip_same : (ls ms : List Line) (spelled : List (List ℕ)) → AllZip Spells ls spelled → AllZip Spells ms spelled → ls ≡ ms
zip_same [] [] [] p q = refl
zip_same [] (m ∷ ms) [] p q = absurd q
zip_same (l ∷ ls) ms [] p q = absurd p
zip_same [] ms (x ∷ xs) p q = absurd p
zip_same (l ∷ ls) [] (x ∷ xs) p q = absurd q
zip_same (l ∷ ls) (m ∷ ms) (x ∷ xs) p q = λ i. one_line l m x p.0 q.0 i ∷ zip_same ls ms xs p.1 q.1 i

zip_last : (ms : List Line) (before : List (List ℕ)) (line : List ℕ) → AllZip Spells ms (before ++ line ∷ []) →
    (front : List Line) × (l : Line) × (ms ≡ front ++ l ∷ []) × AllZip Spells front before × Spells l line
zip_last [] [] line h = absurd h
zip_last [] (x ∷ before) line h = absurd h
zip_last (m ∷ []) [] line h = ([], m, refl, tt, h.0)
zip_last (m ∷ k ∷ ms) [] line h = absurd h.1
zip_last (m ∷ ms) (x ∷ before) line h =
    let rest = zip_last ms before line h.1 in
    (m ∷ rest.0, rest.1, ap (λ t. m ∷ t) rest.2, (h.0, rest.3), rest.4)

begins : (lines : List Line) (before : List (List ℕ)) (s : SoFar) → AllZip Spells lines before → Drafted lines s → MayBegin before
begins lines before s each drafted = let may = may_begin lines s drafted in (lines, may.0, may.1, each, may.2)

-- no text goes on so
stops : (before : List (List ℕ)) (line : List ℕ) (lines : List Line) (s : SoFar) (t : SoFar) → AllZip Spells lines before → Drafted lines s → ReadsOn s line false t →
    MayBegin (before ++ line ∷ []) → ⊥
stops before line lines s t each drafted refused (ms, more, session, all, say) =
    let last = zip_last ms before line all in
    let same : ms ≡ lines ++ last.1 ∷ [] = last.2 ∙ ap (λ x. x ++ last.1 ∷ []) (zip_same last.0 lines before last.3 each) in
    let shown : ms ++ more ≡ lines ++ (last.1 ∷ more) = ap (λ x. x ++ more) same ∙ append_assoc lines (last.1 ∷ []) more in
    line_refused lines s last.1 more session drafted (refused last.1 last.4) (subst (λ (ls : List Line). Say ls session) shown say)

pub refused_line : (text rest line behind : List ℕ) (n : ℕ) (s t : SoFar) → HasRead text rest n s → lines_of rest ≡ line ∷ lines_of behind → ReadsOn s line false t →
    IsRefusedAt text n
refused_line text rest line behind n s t h next refused = record {
  before = h.before;
  rest = line ∷ lines_of behind;
  text_lines = subst (λ (ls : List (List ℕ)). AreLines ls text) (h.text_lines ∙ ap (λ x. h.before ++ x) next) (are_lines text);
  number = h.number;
  good = begins h.lines h.before s h.each h.drafted;
  bad = stops h.before line h.lines s t h.each h.drafted refused;
}

cc_some : (x y : List ℕ) (o : Option (List ℕ)) → o ≡ Some x → o ≡ Some y → x ≡ y
cc_some x y o p q = cc

-- all lines were read
all_read : (text rest : List ℕ) (n : ℕ) (s : SoFar) (h : HasRead text rest n s) → rest ≡ [] → lines_of text ≡ h.before
all_read text rest n s h none = h.text_lines ∙ ap (λ x. h.before ++ lines_of x) none ∙ append-nil h.before

-- the lines say no session
lacks : (lines : List Line) (s : SoFar) → Drafted lines s → (s.config ≡ None) ⊎ (most_scripts < length s.scripts) ⊎ (KeepLevels s.scripts → ⊥) → (t : SessionText) → Say lines t → length t.scripts ≤ 1024 → KeepLevels t.scripts → ⊥
lacks lines s (inl h) why t say few levels = nothing_said lines s t h say
lacks lines s (inr (text, others, h)) (inl none) t say few levels = cc (sym none ∙ h.config)
lacks lines s (inr (text, others, h)) (inr (inl many)) t say few levels = omega (arith, many, few, ap (λ (x : List _). length x) (same_scripts lines text others s t h say))
lacks lines s (inr (text, others, h)) (inr (inr broken)) t say few levels = broken (subst (λ (x : List (List _)). KeepLevels x) (same_scripts lines text others s t h say) levels)

-- the session that the lines say
whole : (text rest : List ℕ) (n : ℕ) (s : SoFar) (session : Session) (config : List ℕ) (h : HasRead text rest n s) → rest ≡ [] → s.config ≡ Some config →
    length s.scripts ≤ most_scripts → KeepLevels s.scripts → session_of session ≡ session_so_far config s → (lines : List Line) → AllZip Spells lines h.before → Drafted lines s → IsSessionText text (session_of session)
whole text rest n s session config h none is few levels asks lines each (inl nothing) = cc (sym is ∙ nothing.config)
whole text rest n s session config h none is few levels asks lines each (inr (text', others, said)) =
    let same : text' ≡ config = cc_some text' config s.config said.config is in
    subst (IsSessionText text) (sym asks) (record {
      spelled = h.before;
      lines = lines;
      text_lines = subst (λ (ls : List (List ℕ)). AreLines ls text) (all_read text rest n s h none) (are_lines text);
      each = each;
      say = subst (λ (t : List ℕ). Say lines (session_so_far t s)) same (said_whole lines text' others s said);
      not_many = few;
      levels = levels;
    })

refused_end : (text rest : List ℕ) (n m : ℕ) (s : SoFar) (h : HasRead text rest n s) → rest ≡ [] → m ≡ n → (s.config ≡ None) ⊎ (most_scripts < length s.scripts) ⊎ (KeepLevels s.scripts → ⊥) → IsRefusedAt text m
refused_end text rest n m s h none same why = record {
  before = h.before;
  rest = [];
  text_lines = subst (λ (ls : List (List ℕ)). AreLines ls text) (all_read text rest n s h none ∙ sym (append-nil h.before)) (are_lines text);
  number = same ∙ h.number;
  good = begins h.lines h.before s h.each h.drafted;
  bad = λ session is.
      let before : is.spelled ≡ h.before = lines_are is.spelled text is.text_lines ∙ all_read text rest n s h none in
      let lines : is.lines ≡ h.lines = zip_same is.lines h.lines h.before (subst (AllZip Spells is.lines) before is.each) h.each in
      lacks h.lines s h.drafted why session (subst (λ (ls : List Line). Say ls session) lines is.say) is.not_many is.levels;
}

pub ends : (text rest : List ℕ) (n : ℕ) (s : SoFar) (r : Result Session TextFault) → HasRead text rest n s → rest ≡ [] → Finishes s n r → ReadsText text r
ends text rest n s (Ok session) h none (config, is, few, levels, asks, new) = (whole text rest n s session config h none is few levels asks h.lines h.each h.drafted, new)
ends text rest n s (Err (fault.Line m)) h none (same, why) = refused_end text rest n m s h none same why
ends text rest n s (Err fault.TooLong) h none end = absurd end
ends text rest n s (Err fault.OutOfMemory) h none end = tt

-- ---- one session

same_given : {A : Type 0} (x y : A) (o : Option A) → o ≡ Some x → o ≡ Some y → x ≡ y
same_given x y o p q = cc

one_say : (lines : List Line) (s t : SessionText) → Say lines s → Say lines t → s ≡ t
one_say lines s t p q =
    let both : ConfigLine s.config ∷ p.others ≡ ConfigLine t.config ∷ q.others = sym p.first ∙ q.first in
    let others : p.others ≡ q.others = cc in
    let config : s.config ≡ t.config = cc in
    let nonce : s.nonce ≡ t.nonce = same_given s.nonce t.nonce (one_or default_nonce (filter_map nonce_of p.others)) p.nonce (ap (λ x. one_or default_nonce (filter_map nonce_of x)) others ∙ q.nonce) in
    let limit : s.limit ≡ t.limit = same_given s.limit t.limit (one_or 16777216 (filter_map limit_of p.others)) p.limit (ap (λ x. one_or 16777216 (filter_map limit_of x)) others ∙ q.limit) in
    let cut : s.cut ≡ t.cut = same_given s.cut t.cut (one_or 8192 (filter_map cut_of p.others)) p.cut (ap (λ x. one_or 8192 (filter_map cut_of x)) others ∙ q.cut) in
    let ends : s.ends ≡ t.ends = p.ends ∙ ap (list_any is_end) others ∙ sym q.ends in
    let turns : s.turns ≡ t.turns = p.turns ∙ ap (flat_map turns_of) others ∙ sym q.turns in
    let plan : s.plan ≡ t.plan = p.plan ∙ ap (filter_map step_of) others ∙ sym q.plan in
    let parts : [] ∷ s.scripts ≡ [] ∷ t.scripts = sym p.scripts ∙ ap (λ x. commands (slice_split is_handle x)) others ∙ q.scripts in
    let scripts : s.scripts ≡ t.scripts = cc in
    λ i. record { config = config i; nonce = nonce i; scripts = scripts i; turns = turns i; limit = limit i; plan = plan i; cut = cut i; ends = ends i }

pub one_session : (text : List ℕ) (s t : SessionText) → IsSessionText text s → IsSessionText text t → s ≡ t
one_session text s t p q =
    let spelled : q.spelled ≡ p.spelled = lines_are q.spelled text q.text_lines ∙ sym (lines_are p.spelled text p.text_lines) in
    let lines : q.lines ≡ p.lines = zip_same q.lines p.lines p.spelled (subst (AllZip Spells q.lines) spelled q.each) p.each in
    one_say p.lines s t p.say (subst (λ (ls : List Line). Say ls t) lines q.say)

zip_split : (ms : List Line) (before after : List (List ℕ)) → AllZip Spells ms (before ++ after) → (front : List Line) × (more : List Line) × (ms ≡ front ++ more) × AllZip Spells front before
zip_split ms [] after h = ([], ms, refl, tt)
zip_split [] (x ∷ before) after h = absurd h
zip_split (m ∷ ms) (x ∷ before) after h =
    let rest = zip_split ms before after h.1 in
    (m ∷ rest.0, rest.1, ap (λ t. m ∷ t) rest.2, (h.0, rest.3))

not_refused : (text : List ℕ) (before rest : List (List ℕ)) (s : SessionText) → AreLines (before ++ rest) text → CanNotGoOn before rest text → IsSessionText text s → ⊥
not_refused text before [] s lines bad is = bad s is
not_refused text before (next ∷ rest) s lines bad is =
    let spelled : is.spelled ≡ (before ++ next ∷ []) ++ rest =
    lines_are is.spelled text is.text_lines ∙ sym (lines_are (before ++ (next ∷ rest)) text lines) ∙ sym (append_assoc before (next ∷ []) rest) in
    let parts = zip_split is.lines (before ++ next ∷ []) rest (subst (AllZip Spells is.lines) spelled is.each) in
    bad (parts.0, parts.1, s, parts.3, subst (λ (ls : List Line). Say ls s) parts.2 is.say)

pub refused_is_none : (text : List ℕ) (n : ℕ) (s : SessionText) → IsRefusedAt text n → IsSessionText text s → ⊥
refused_is_none text n s refused is = not_refused text refused.before refused.rest s refused.text_lines refused.bad is

-- ---- a line that was read

-- it says what the line says for which it stands
says_so : (line : read.Line) (l : Line) (s : SoFar) → Stands line l → with_line l s ≡ with_read line s
says_so line.Nothing l s h = ap (λ m. with_line m s) h
says_so (line.Config text) l s h = ap (λ m. with_line m s) h
says_so (line.Nonce nonce) l s h = ap (λ m. with_line m s) h
says_so (line.Limit n) l s h = ap (λ m. with_line m s) h
says_so (line.Turns turns) l s h = ap (λ m. with_line m s) h
says_so line.Handle l s h = ap (λ m. with_line m s) h
says_so (line.Step entry) l s (pieces, is, joined) = ap (λ m. with_line m s) is ∙ ap (λ bytes. with_entry bytes s) (sym joined)
says_so (line.Cut n) l s h = ap (λ m. with_line m s) h
says_so line.End l s h = ap (λ m. with_line m s) h
says_so (line.Command c) l s h = ap (λ m. with_line m s) h

pub reads_on : (line : read.Line) (old : SoFar) (spelled : List ℕ) (stands : Bool) (new : SoFar) → ReadsLine spelled (Some line) → Steps (with_read line old) stands new →
    ReadsOn old spelled stands new
reads_on line old spelled true new (l, is, stood) next = (l, is, says_so line l old stood ∙ next)
reads_on line old spelled false new (l, is, stood) next = λ m spells. ap (λ k. with_line k old) (one_line m l spelled spells is) ∙ says_so line l old stood ∙ next
