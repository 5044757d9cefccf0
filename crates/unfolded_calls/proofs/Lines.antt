-- Statements before and the statements after at their place, where the nodes below do alike.
use Rattle.std.proofs.Common.{◌≡◌, ℕ, List, ◌++◌, Some, None, refl, sym, ap, ◌∙◌, subst}
use Rattle.std.specs.Prelude.{Bool, map, set, codes}
use Rattle.run_model.specs.Values.{Value}
use Rattle.run_model.specs.Store.{Binding, Memory, with_cell}
use Rattle.resolved_model.specs.ResolvedTrees.{of_word, to_temporary, reading, sending, assigning, ResolvedStatements, no_lines, more_lines}
use Rattle.resolved_model.specs.ResolvedImages.{ResolvedImage}
use Rattle.resolved_model.specs.ResolvedActs.{ResolvedFrame, ResolvedClosure}
use Rattle.resolved_model.specs.ResolvedEval.{at_node, lines}
use Rattle.resolved_traces.specs.ResolvedTraces.{TracedAct, traced, goes_on_traced, then_traced, resolved_traces}
use Rattle.unfolded_calls.specs.Unfolding.{StandIn, a_dropped, a_nothing, Context, with_local, staying_in, UnfoldsLines, same_stop, same_line, dropped_line, first_line, unfolded_run, joined, UnfoldsOwn, own_lines, own_line, own_run, IsUnfolded}
use Rattle.unfolded_calls.proofs.Worlds.{World, Onward, onward-at_once, onward-on, constant_value, Stands, as_argument, as_constant, Has, has_settled, frame-onward, Linked}
use Rattle.unfolded_calls.proofs.Following.{Same, Follows, both_give, stops_before, goes-on_from, weaker}
use Rattle.unfolded_calls.proofs.Joined.{lines-joined, twice}
use Rattle.unfolded_calls.proofs.Dropped.{DroppedAt, dropped-at, DropsFrom, drops-none, settled_in, settled-there, settled-onward, settled-linked, all-set}
use Rattle.unfolded_calls.proofs.Lone.{left-behind}
use Rattle.resolved_traces.specs.WholeTraces.{told_in}
use Rattle.unfolded_calls.proofs.Steps.{Frames, Evaluator, Goes, Drops, sets, ends_early, FixedValue, fixed_argument, fixed_constant, node-sim, Anything}

module _ (i after : ResolvedImage) (u : IsUnfolded i after) (side : Bool) (go go' : Evaluator i after u side) (goes : Goes i after u side go go') where
  abbrev F : World → Context → ResolvedFrame → ResolvedFrame → Type 0
  F w g f f' = Frames i after u side w g f f'

  -- there are statements
  abbrev IsMore : ResolvedStatements → Type 0
  IsMore no_lines = ⊥
  IsMore (more_lines t ss) = Unit {0}

  joined-more : (a b : ResolvedStatements) → IsMore b → IsMore (joined a b)
  joined-more no_lines b m = m
  joined-more (more_lines t a) b m = tt

  lines-more : {g : Context} {ss ss' : ResolvedStatements} → UnfoldsLines i u.gone g ss ss' → IsMore ss → IsMore ss'
  lines-more same_stop m = m
  lines-more (same_line r rs) m = tt
  lines-more (unfolded_run {body' = body'} {rest = rest} actuals supers p qs b rs) m = joined-more body' rest (lines-more rs tt)
  lines-more (dropped_line k a e q fix rs) m = lines-more rs tt
  lines-more (first_line k n e q le p rs) m = tt

  -- behind a first statement its value does not count
  any-before : (f : ResolvedFrame) (x y : Value) (ss : ResolvedStatements) → IsMore ss → lines resolved_traces go' f x ss ≡ lines resolved_traces go' f y ss
  any-before f x y no_lines m = absurd m
  any-before f x y (more_lines t ss) m = refl

  -- a stand-in that is the same from then on
  fixed-stands : {w : World} {locals : List Binding} {me : Value} {x : Value} {a : StandIn} {b : Binding} → FixedValue i after u side locals me x a → Has w b x → Stands w locals me b a
  fixed-stands {x = x} (fixed_argument j e) h = as_argument x j h e
  fixed-stands {x = x} (fixed_constant a e) h = as_constant x a h e

  fixed-not : {locals : List Binding} {me : Value} {x : Value} {a : StandIn} → FixedValue i after u side locals me x a → a ≡ a_dropped → ⊥
  fixed-not (fixed_argument j e) q = cc
  fixed-not {me = me} {x = x} (fixed_constant a e) q = none (ap (constant_value me) (sym q) ∙ e)
    where
      none : None ≡ Some x → ⊥
      none z = cc

  -- statements, from the world on in which the cells of their temporaries were not yet made
  pub lines-follow : (w0 w : World) {g : Context} {ss ss' : ResolvedStatements} (f f' : ResolvedFrame) (x : Value) → UnfoldsLines i u.gone g ss ss' → F w g f f' → Onward w0 w → DropsFrom w0.cells.limit f.locals g.locals →
      (cs cs' : List ResolvedClosure) (m m' : Memory) → Linked i u.gone u.named w cs m cs' m' → Follows i u.gone u.named side Same w0 (lines resolved_traces go f x ss cs m) (lines resolved_traces go' f' x ss' cs' m')
  unfolding then_traced traced
  lines-follow w0 w f f' x same_stop a o d cs cs' m m' l = both_give w o refl l refl
  lines-follow w0 w f f' x (same_line {ss = ss} {ss' = ss'} r rs) a o d cs cs' m m' l =
      goes-on_from i u.gone u.named side (λ y. lines resolved_traces go f y ss) (λ y. lines resolved_traces go' f' y ss') o (node-sim i after u side goes f f' r a w cs cs' m m' (onward-at_once w) l)
      (λ z y y' ds ds' n n' p k e. subst (λ b. Follows i u.gone u.named side Same w0 (lines resolved_traces go f y ss ds n) (lines resolved_traces go' f' b ss' ds' n')) e (lines-follow w0 z f f' y rs (frame-onward i u.gone u.named p a) (onward-on o p) d ds ds' n n' k))
  lines-follow w0 w f f' x (unfolded_run {s = s} {args = args} {body' = body'} {ss = ss} {rest = rest} {t = t} actuals supers p qs b rs) a o d cs cs' m m' l =
      subst (λ y. Follows i u.gone u.named side Same w0 (lines resolved_traces go f x (more_lines (sending (reading (of_word (codes "self"))) s args) (more_lines t ss)) cs m) y) (sym (lines-joined go' f' x body' rest cs' m'))
      (goes-on_from i u.gone u.named side (λ y. lines resolved_traces go f y (more_lines t ss)) (λ y. lines resolved_traces go' f' y rest) o (goes.run f f' x actuals supers p qs b a w cs cs' m m' (onward-at_once w) l)
      (λ z y y' ds ds' n n' q k e. subst (λ (act : TracedAct Value). Follows i u.gone u.named side Same w0 (lines resolved_traces go f y (more_lines t ss) ds n) (act ds' n')) (any-before f' y y' rest (lines-more rs tt)) (lines-follow w0 z f f' y rs (frame-onward i u.gone u.named q a) (onward-on o q) d ds ds' n n' k)))
  lines-follow w0 w {g} f f' x (first_line {e = e} {t = t} {t' = t'} {ss = ss} {rest = rest} k n q r le p rs) a o d cs cs' m m' l =
      let set_it = go (at_node f (assigning (to_temporary k) e)) in
      subst (λ y. Follows i u.gone u.named side Same w0 y (lines resolved_traces go' f' x (more_lines t' rest) cs' m'))
      (sym (twice (set_it cs m).0.steps (set_it cs m).0.end (set_it cs m).1 (λ y. go (at_node f t)) (λ y. lines resolved_traces go f y ss) (λ y. lines resolved_traces go f y (more_lines t ss)) (λ y ds h. refl)))
      (goes-on_from i u.gone u.named side (λ y. lines resolved_traces go f y ss) (λ y. lines resolved_traces go' f' y rest) (onward-at_once w0) (goes.firsts w0 w f f' k n q r le p a o d cs cs' m m' l)
      (λ z y y' ds ds' h h' b c i1. subst (λ v. Follows i u.gone u.named side Same w0 (lines resolved_traces go f y ss ds h) (lines resolved_traces go' f' v rest ds' h')) i1.0 (lines-follow w0 z f f' y rs i1.1 b (drops-none w0.cells.limit f.locals g.locals a_nothing k (λ v. not_dropped v)) ds ds' h h' c)))
    where
      not_dropped : a_nothing ≡ a_dropped → ⊥
      not_dropped v = cc
  lines-follow w0 w {g} f f' x (dropped_line {t = t} {u = t2} {ss = ss} {rest = rest} k b e q fix rs) a o d cs cs' m m' l =
      by (λ v w1 n a1 o1 d1 l1. lines-follow w0 w1 f f' v rs a1 o1 d1 cs cs' n m' l1) (goes.drops f f' k c a q fix at.here l)
    where
      at : DroppedAt w f.locals k
      at = dropped-at a.locals k e

      c : ℕ
      c = at.cell

      left : TracedAct Value
      left = go (at_node f (assigning (to_temporary k) t))

      Again : Type 0
      Again = (v : Value) (w1 : World) (n : Memory) → F w1 (with_local k b g) f f' → Onward w0 w1 → DropsFrom w0.cells.limit f.locals (set (map staying_in g.locals) k b) → Linked i u.gone u.named w1 cs n cs' m' → Follows i u.gone u.named side Same w0 (lines resolved_traces go f v (more_lines t2 ss) cs n) (lines resolved_traces go' f' v rest cs' m')

      by : Again → Drops i after u side left f' b c cs m → Follows i u.gone u.named side Same w0 (goes_on_traced (left cs m).0.steps (left cs m).0.end (left cs m).1 (λ y. lines resolved_traces go f y (more_lines t2 ss))) (lines resolved_traces go' f' x rest cs' m')
      by ih (ends_early ts n ds z quiet same) = subst (λ y. Follows i u.gone u.named side Same w0 (goes_on_traced y.0.steps y.0.end y.1 (λ y. lines resolved_traces go f y (more_lines t2 ss))) (lines resolved_traces go' f' x rest cs' m')) (sym same)
          (stops_before z (told_in (lines resolved_traces go' f' x rest cs' m').0.steps) (ap (λ es. es ++ told_in (lines resolved_traces go' f' x rest cs' m').0.steps) quiet))
      by ih (sets v ts quiet same value) = subst (λ y. Follows i u.gone u.named side Same w0 (goes_on_traced y.0.steps y.0.end y.1 (λ y. lines resolved_traces go f y (more_lines t2 ss))) (lines resolved_traces go' f' x rest cs' m')) (sym same)
          (left-behind i u.gone u.named side ts quiet (again (lines-more rs tt)))
        where
          again : IsMore rest → Follows i u.gone u.named side Same w0 (lines resolved_traces go f v (more_lines t2 ss) cs (with_cell m c v)) (lines resolved_traces go' f' x rest cs' m')
          again more = subst (λ (act : TracedAct Value). Follows i u.gone u.named side Same w0 (lines resolved_traces go f v (more_lines t2 ss) cs (with_cell m c v)) (act cs' m')) (any-before f' v x rest more)
              (ih v (settled_in w c v) (with_cell m c v) after_set (settled-onward w0 w c v (d k c e at.here) o) (drops-none w0.cells.limit f.locals g.locals b k (fixed-not value)) (settled-linked i u.gone u.named c v at.unset l))
            where
              after_set : F (settled_in w c v) (with_local k b g) f f'
              after_set = record {
                locals = all-set c k v b at.unset at.here a.locals (fixed-stands value (has_settled c v (settled-there w c v at.unset)));
                me = a.me;
                home = a.home;
                above = a.above;
                runs = a.runs;
                place = a.place;
              }

  -- statements whose last value counts for nothing
  pub own-follow : (w0 w : World) {g : Context} {ss ss' : ResolvedStatements} (f f' : ResolvedFrame) (x x' : Value) → UnfoldsOwn i u.gone g ss ss' → F w g f f' → Onward w0 w → DropsFrom w0.cells.limit f.locals g.locals →
      (cs cs' : List ResolvedClosure) (m m' : Memory) → Linked i u.gone u.named w cs m cs' m' → Follows i u.gone u.named side (Anything i after u side) w0 (lines resolved_traces go f x ss cs m) (lines resolved_traces go' f' x' ss' cs' m')
  unfolding then_traced traced
  own-follow w0 w f f' x x' (own_lines {ss = no_lines} same_stop) a o d cs cs' m m' l = both_give w o refl l tt
  own-follow w0 w f f' x x' (own_lines {ss = more_lines t ss} {ss' = ss'} rs) a o d cs cs' m m' l =
      subst (λ (act : TracedAct Value). Follows i u.gone u.named side (Anything i after u side) w0 (lines resolved_traces go f x (more_lines t ss) cs m) (act cs' m')) (any-before f' x x' ss' (lines-more rs tt))
      (weaker i u.gone u.named side (λ z y y' e. tt) (lines-follow w0 w f f' x rs a o d cs cs' m m' l))
  own-follow w0 w f f' x x' (own_line {ss = ss} {ss' = ss'} r rs) a o d cs cs' m m' l =
      goes-on_from i u.gone u.named side (λ y. lines resolved_traces go f y ss) (λ y. lines resolved_traces go' f' y ss') o (node-sim i after u side goes f f' r a w cs cs' m m' (onward-at_once w) l)
      (λ z y y' ds ds' n n' p k e. own-follow w0 z f f' y y' rs (frame-onward i u.gone u.named p a) (onward-on o p) d ds ds' n n' k)
  own-follow w0 w f f' x x' (own_run {s = s} {args = args} {body' = body'} {ss = ss} {rest = rest} actuals supers p qs b rs) a o d cs cs' m m' l =
      subst (λ y. Follows i u.gone u.named side (Anything i after u side) w0 (lines resolved_traces go f x (more_lines (sending (reading (of_word (codes "self"))) s args) ss) cs m) y) (sym (lines-joined go' f' x' body' rest cs' m'))
      (goes-on_from i u.gone u.named side (λ y. lines resolved_traces go f y ss) (λ y. lines resolved_traces go' f' y rest) o (goes.run f f' x' actuals supers p qs b a w cs cs' m m' (onward-at_once w) l)
      (λ z y y' ds ds' n n' q k e. own-follow w0 z f f' y y' rs (frame-onward i u.gone u.named q a) (onward-on o q) d ds ds' n n' k))
