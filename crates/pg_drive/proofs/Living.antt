-- The life of a drive's state, put together from its polls.
use Rattle.std.proofs.Common.{◌≡◌, inl, inr, List, [], ◌∷◌, ◌++◌, Result, refl, sym, ◌∙◌, ap, subst, filter, append-nil}
use Rattle.std.proofs.lemmas.List.{map-append}
use Rattle.std.proofs.lemmas.List.Elements.{filter-append}
use Rattle.pg_spec.specs.declared.stamps.Stamp.{Stamp}
use Rattle.pg_types.specs.declared.error.Error.{Error}
use Rattle.pg_desk.specs.declared.event.Event.{Event}
use Rattle.pg_query.specs.Lives.{Deed}
use Rattle.pg_query.specs.Meaning.{Place, Goes}
use Rattle.pg_drive.specs.Lines.{LineView}
use Rattle.pg_drive.specs.Drives.{Stand, GoesOn, Drives, Ends, Gives}
use Rattle.pg_drive.specs.Lives.{IsLife, EndsLife, is_own, under}
use Rattle.pg_drive.proofs.Calls.{Ticks, engines-other, poll-ticks, walks-own}

-- the own deeds of two lists
both : (stamp : Stamp) (xs ys : List Event) → filter is_own (under stamp (xs ++ ys)) ≡ filter is_own (under stamp xs) ++ filter is_own (under stamp ys)
both stamp xs ys = ap (filter is_own) (map-append (λ (e : Event). record { stamp = stamp; event = e }) xs ys) ∙ filter-append is_own (under stamp xs) (under stamp ys)

module _ {H T : Type 0} (becomes : H → List Event → H → Type 0) (joins : (a b c : H) (es fs : List Event) → becomes a es b → becomes b fs c → becomes a (es ++ fs) c) (stamp : Stamp) where
  -- one turn
  pub life-of-turn : (a b : H) (p q : Place T) → Goes becomes stamp a p b q → IsLife becomes stamp a p b q
  life-of-turn a b p q goes = record {
    events = goes.events;
    became = goes.became;
    turns = record { stamp = stamp; events = goes.events } ∷ [];
    lives = (q, goes.walked, refl);
    own = append-nil (under stamp goes.events) ∙ sym (walks-own stamp p.dialogue p.reads goes.events q.dialogue q.reads goes.walked);
  }

  -- a turn, and calls of the connection, before a life
  pub life-before : (a b c d : H) (p n q : Place T) → Goes becomes stamp a p b n → Ticks becomes b c → IsLife becomes stamp c n d q → IsLife becomes stamp a p d q
  life-before a b c d p n q goes ticks life = record {
    events = (goes.events ++ ticks.events) ++ life.events;
    became = joins a c d (goes.events ++ ticks.events) life.events (joins a b c goes.events ticks.events goes.became ticks.became) life.became;
    turns = record { stamp = stamp; events = goes.events } ∷ life.turns;
    lives = (n, goes.walked, life.lives);
    own = sym (
        both stamp (goes.events ++ ticks.events) life.events
        ∙ ap (λ (l : List Deed). l ++ filter is_own (under stamp life.events)) (
        both stamp goes.events ticks.events
        ∙ ap (λ (l : List Deed). l ++ filter is_own (under stamp ticks.events)) (walks-own stamp p.dialogue p.reads goes.events n.dialogue n.reads goes.walked)
        ∙ ap (λ (l : List Deed). under stamp goes.events ++ l) (engines-other stamp ticks.events ticks.calls)
        ∙ append-nil (under stamp goes.events))
        ∙ ap (λ (l : List Deed). under stamp goes.events ++ l) (sym life.own));
  }

  -- what the connection did where a drive goes on
  ticks-of : (p q : Place T) (a b : LineView H) (on : GoesOn becomes stamp p a q b) → Ticks becomes on.between b.hub
  ticks-of p q a b on =
      let line = on.line in
      let polled = line.polled in
      subst (λ (h : H). Ticks becomes on.between h) (sym (ap (λ (x : LineView H). x.hub) line.same))
      (poll-ticks becomes on.between line.mid.hub a.streams line.mid.streams a.link line.mid.link polled.answer a.messages line.mid.messages polled.polled polled.kept)

  -- polls before a life
  pub life-of-drive : (s : Stand H T) (ss : List (Stand H T)) (t : Stand H T) (d : H) (q : Place T) → Drives becomes stamp s ss t → IsLife becomes stamp t.line.hub t.place d q →
      IsLife becomes stamp s.line.hub s.place d q
  life-of-drive s [] t d q drives life = subst (λ (x : Stand H T). IsLife becomes stamp x.line.hub x.place d q) drives life
  life-of-drive s (n ∷ ss) t d q drives life =
      let on = drives.0 in
      life-before s.line.hub on.between n.line.hub d s.place n.place q on.pauses.goes (ticks-of s.place n.place s.line n.line on) (life-of-drive n ss t d q drives.1 life)

  -- and so up to how it ends
  ends-life : (s : Stand H T) (ss : List (Stand H T)) (t : Stand H T) (left : LineView H) (r : Result T Error) → Drives becomes stamp s ss t → Ends becomes stamp t.place t.line left r →
      EndsLife becomes stamp s r
  ends-life s ss t left r drives (inl answers) = record {
    hub = left.hub;
    place = answers.goes.last;
    life = life-of-drive s ss t left.hub answers.goes.last drives (life-of-turn t.line.hub left.hub t.place answers.goes.last answers.goes.goes);
    answer = inl answers.goes.answers;
  }
  ends-life s ss t left r drives (inr breaks) = record {
    hub = breaks.between;
    place = breaks.place;
    life = life-of-drive s ss t breaks.between breaks.place drives (life-of-turn t.line.hub breaks.between t.place breaks.place breaks.pauses.goes);
    answer = inr (record { error = breaks.error; says = breaks.says; before = record t.line { hub = breaks.between }; after = breaks.failed; steps = breaks.line });
  }

  pub life-of : (s : Stand H T) (r : Result T Error) → Gives becomes stamp s r → EndsLife becomes stamp s r
  life-of s r gives = ends-life s gives.stands gives.last gives.left r gives.drives gives.ends
