-- Acts before that tell nothing up to the read of a cell, and acts after that tell nothing up to a part, whose value is in that cell.
use Rattle.std.proofs.Common.{◌≡◌, ◌≤◌, ◌<◌, length, ℕ, List, [], ◌∷◌, ◌++◌, Some, refl, sym, ap, ◌∙◌, subst, append-nil, append_assoc}
use Rattle.std.specs.Prelude.{Bool, true, slice_get}
use Rattle.std.proofs.lemmas.List.{get_or-set_same}
use Rattle.run_model.specs.Values.{Value, nil_value}
use Rattle.run_model.specs.Store.{in_cell, Memory, with_cell, value_in_cell}
use Rattle.trace_model.specs.Traces.{Step, wants, End, gave, returned, failed_by, stopped, traces, behind}
use Rattle.resolved_model.specs.ResolvedTrees.{of_local, reading}
use Rattle.resolved_model.specs.ResolvedImages.{ResolvedImage}
use Rattle.resolved_model.specs.ResolvedActs.{ResolvedFrame, ResolvedClosure}
use Rattle.resolved_model.specs.ResolvedEval.{at_node, reads_local, resolved_step}
use Rattle.resolved_traces.specs.ResolvedTraces.{TracedAct, traced, goes_on_traced, then_traced, resolved_traces}
use Rattle.resolved_traces.specs.WholeTraces.{told_in}
use Rattle.unfolded_calls.specs.Unfolding.{a_nothing, Context, with_local, IsUnfolded}
use Rattle.unfolded_calls.proofs.Worlds.{World, Onward, onward-on, onward-at_once, unset-onward, IsUnset, as_nothing, frame-onward, Linked}
use Rattle.unfolded_calls.proofs.Following.{Came, Same, Follows, both_give, both_return, both_fail, stops_before, stops_after, Sim, told-append, earlier, both-behind, stops-sim, stopped-before, stopped-after}
use Rattle.unfolded_calls.proofs.Joined.{on-behind, twice}
use Rattle.unfolded_calls.proofs.Lone.{Silent}
use Rattle.unfolded_calls.proofs.Dropped.{settled_in, settled-onward, settled-linked, all-set}
use Rattle.unfolded_calls.proofs.Steps.{Evaluator, Frames, InFrame, then-same, same-value}

behind-twice : {B : Type 0} (ss ts : List Step) (x : Came B) → ◌≡◌ {A = Came B} (behind ss (behind ts x.0), x.1) (behind (ss ++ ts) x.0, x.1)
behind-twice ss ts x = ap (λ l. (record { steps = l; end = x.0.end }, x.1)) (sym (append_assoc ss ts x.0.steps))

-- what is given is given
given-again : (ss : List Step) (e : End Value) (ds : List ResolvedClosure) → goes_on_traced ss e ds (λ v. traced (traces.gives v)) ≡ (record { steps = ss; end = e }, ds)
unfolding traced
given-again ss (gave v m) ds = ap (λ l. (record { steps = l; end = gave v m }, ds)) (append-nil ss)
given-again ss (returned h v m) ds = refl
given-again ss (failed_by e m) ds = refl
given-again ss (stopped m) ds = refl

-- an act before that gives a thing and does nothing else, or stops first
pub data Quietly (side : Bool) {A : Type 0} (act : TracedAct A) (a : A) (ds : List ResolvedClosure) (n : Memory) : Type 0 where
  quiet_gives : Silent act a ds n → Quietly side act a ds n
  quiet_stops : (ss : List Step) (m : Memory) (cs : List ResolvedClosure) → side ≡ true → told_in ss ≡ [] → act ds n ≡ (record { steps = ss; end = stopped m }, cs) → Quietly side act a ds n

module _ (i after : ResolvedImage) (u : IsUnfolded i after) (side : Bool) (g : Context) (f f' : ResolvedFrame) (c : ℕ) where
  abbrev F : World → Type 0
  F w = Frames i after u side w g f f'

  abbrev L : World → List ResolvedClosure → Memory → List ResolvedClosure → Memory → Type 0
  L w cs m cs' m' = Linked i u.gone u.named w cs m cs' m'

  -- an act before that tells nothing up to a read of the cell, and then goes on with what is there, or stops first
  pub data Reads {A : Type 0} (act : TracedAct A) (rest : Value → TracedAct A) (ds : List ResolvedClosure) (n : Memory) : Type 0 where
    reads_on : (ss : List Step) → told_in ss ≡ [] → act ds n ≡ (behind ss (rest (value_in_cell n c) ds n).0, (rest (value_in_cell n c) ds n).1) → Reads act rest ds n
    reads_short : (ss : List Step) (m : Memory) (cs : List ResolvedClosure) → side ≡ true → told_in ss ≡ [] → act ds n ≡ (record { steps = ss; end = stopped m }, cs) → Reads act rest ds n

  -- an act after that tells nothing up to a part, and then goes on with its value
  pub record Begins {A : Type 0} (part : TracedAct Value) (act : TracedAct A) (rest : Value → TracedAct A) (ds : List ResolvedClosure) (n : Memory) : Type 0 where
    pub steps : List Step
    pub quiet : told_in steps ≡ []
    pub same : act ds n ≡ (behind steps (goes_on_traced (part ds n).0.steps (part ds n).0.end (part ds n).1 rest).0, (goes_on_traced (part ds n).0.steps (part ds n).0.end (part ds n).1 rest).1)

  -- both, where what follows is alike
  pub record FirstIn {A : Type 0} (act : TracedAct A) (part : TracedAct Value) (act' : TracedAct A) : Type 0 where
    pub rest : Value → TracedAct A
    pub rest' : Value → TracedAct A
    pub reads : (z : World) (ds ds' : List ResolvedClosure) (n n' : Memory) → F z → L z ds n ds' n' → Reads act rest ds n
    pub begins : (ds : List ResolvedClosure) (n : Memory) → Begins part act' rest' ds n
    pub alike : (z : World) (v : Value) → F z → Sim i u.gone u.named side z Same (rest v) (rest' v)

  -- where the act before stops at once
  pub first-halts : {A : Type 0} {act act' : TracedAct A} {part : TracedAct Value} → side ≡ true → FirstIn act part act' → FirstIn (traced traces.stops) part act'
  unfolding traced
  first-halts s p = record {
    rest = λ v. traced traces.stops;
    rest' = p.rest';
    reads = λ z ds ds' n n' fr l. reads_short [] n ds s refl refl;
    begins = p.begins;
    alike = λ z v fr. stops-sim i u.gone u.named side (p.rest' v) s;
  }

  -- behind a tick
  tick-reads : {A : Type 0} {act : TracedAct A} {rest : Value → TracedAct A} (ds : List ResolvedClosure) (n : Memory) → Reads act rest ds n → Reads (then_traced (traced (traces.pays 1 nil_value)) (λ y. act)) rest ds n
  unfolding then_traced traced
  tick-reads ds n (reads_on ss q e) = reads_on (wants 1 ∷ ss) q (ap (λ x. (behind (wants 1 ∷ []) x.0, x.1)) e)
  tick-reads ds n (reads_short ss m cs s q e) = reads_short (wants 1 ∷ ss) m cs s q (ap (λ x. (behind (wants 1 ∷ []) x.0, x.1)) e)

  pub first-tick : {A : Type 0} {act act' : TracedAct A} {part : TracedAct Value} → FirstIn act part act' → FirstIn (then_traced (traced (traces.pays 1 nil_value)) (λ y. act)) part (then_traced (traced (traces.pays 1 nil_value)) (λ y. act'))
  unfolding then_traced traced
  first-tick p = record {
    rest = p.rest;
    rest' = p.rest';
    reads = λ z ds ds' n n' fr l. tick-reads ds n (p.reads z ds ds' n n' fr l);
    begins = λ ds n. record { steps = wants 1 ∷ (p.begins ds n).steps; quiet = (p.begins ds n).quiet; same = ap (λ x. (behind (wants 1 ∷ []) x.0, x.1)) (p.begins ds n).same };
    alike = p.alike;
  }

  -- with something else behind
  then-reads : {A B : Type 0} {act : TracedAct A} {rest : Value → TracedAct A} (go : A → TracedAct B) (ds : List ResolvedClosure) (n : Memory) → Reads act rest ds n → Reads (then_traced act go) (λ v. then_traced (rest v) go) ds n
  unfolding then_traced
  then-reads {rest = rest} go ds n (reads_on ss q e) =
      let x = rest (value_in_cell n c) ds n in
      reads_on ss q (ap (λ y. goes_on_traced y.0.steps y.0.end y.1 go) e ∙ sym (on-behind ss x.0.steps x.0.end x.1 go))
  then-reads go ds n (reads_short ss m cs s q e) = reads_short ss m cs s q (ap (λ y. goes_on_traced y.0.steps y.0.end y.1 go) e)

  then-begins : {A B : Type 0} {part : TracedAct Value} {act : TracedAct A} {rest : Value → TracedAct A} (go : A → TracedAct B) (ds : List ResolvedClosure) (n : Memory) → Begins part act rest ds n → Begins part (then_traced act go) (λ v. then_traced (rest v) go) ds n
  unfolding then_traced
  then-begins {part = part} {rest = rest} go ds n b =
      let x = goes_on_traced (part ds n).0.steps (part ds n).0.end (part ds n).1 rest in
      record {
        steps = b.steps;
        quiet = b.quiet;
        same = ap (λ y. goes_on_traced y.0.steps y.0.end y.1 go) b.same
            ∙ sym (on-behind b.steps x.0.steps x.0.end x.1 go)
            ∙ ap (λ y. (behind b.steps y.0, y.1)) (sym (twice (part ds n).0.steps (part ds n).0.end (part ds n).1 rest go (λ v. then_traced (rest v) go) (λ a cs m. refl)));
      }

  pub first-then : {A B : Type 0} {act act' : TracedAct A} {part : TracedAct Value} (go go' : A → TracedAct B) → FirstIn act part act' → ((z : World) (a : A) → F z → Sim i u.gone u.named side z Same (go a) (go' a)) →
      FirstIn (then_traced act go) part (then_traced act' go')
  first-then go go' p h = record {
    rest = λ v. then_traced (p.rest v) go;
    rest' = λ v. then_traced (p.rest' v) go';
    reads = λ z ds ds' n n' fr l. then-reads go ds n (p.reads z ds ds' n n' fr l);
    begins = λ ds n. then-begins go' ds n (p.begins ds n);
    alike = λ z v fr. then-same i after u side (p.alike z v fr) (λ y a o. h y a (frame-onward i u.gone u.named o fr));
  }

  -- behind what gives a thing and does nothing else
  quiet-both : (ss ts : List Step) → told_in ss ≡ [] → told_in ts ≡ [] → told_in (ss ++ ts) ≡ []
  quiet-both ss ts a b = told-append ss ts ∙ (λ j. a j ++ b j)

  silent-reads : {A B : Type 0} {pre : TracedAct B} {x : B} {rest : Value → TracedAct A} (go : B → TracedAct A) (ds : List ResolvedClosure) (n : Memory) → Quietly side pre x ds n → Reads (go x) rest ds n → Reads (then_traced pre go) rest ds n
  unfolding then_traced
  silent-reads go ds n (quiet_stops ss m cs s t e) r = reads_short ss m cs s t (ap (λ y. goes_on_traced y.0.steps y.0.end y.1 go) e)
  silent-reads {rest = rest} go ds n (quiet_gives s) (reads_on ss t e) = reads_on (s.steps ++ ss) (quiet-both s.steps ss s.quiet t)
      (ap (λ y. goes_on_traced y.0.steps y.0.end y.1 go) s.same ∙ ap (λ y. (behind s.steps y.0, y.1)) e ∙ behind-twice s.steps ss (rest (value_in_cell n c) ds n))
  silent-reads go ds n (quiet_gives s) (reads_short ss m cs z t e) = reads_short (s.steps ++ ss) m cs z (quiet-both s.steps ss s.quiet t)
      (ap (λ y. goes_on_traced y.0.steps y.0.end y.1 go) s.same ∙ ap (λ y. (behind s.steps y.0, y.1)) e)

  silent-begins : {A B : Type 0} {part : TracedAct Value} {pre : TracedAct B} {x : B} {rest : Value → TracedAct A} (go : B → TracedAct A) (ds : List ResolvedClosure) (n : Memory) → Silent pre x ds n → Begins part (go x) rest ds n → Begins part (then_traced pre go) rest ds n
  unfolding then_traced
  silent-begins {part = part} {rest = rest} go ds n s b =
      let y = goes_on_traced (part ds n).0.steps (part ds n).0.end (part ds n).1 rest in
      record {
        steps = s.steps ++ b.steps;
        quiet = quiet-both s.steps b.steps s.quiet b.quiet;
        same = ap (λ y. goes_on_traced y.0.steps y.0.end y.1 go) s.same ∙ ap (λ y. (behind s.steps y.0, y.1)) b.same ∙ behind-twice s.steps b.steps y;
      }

  pub first-silent : {A B : Type 0} {part : TracedAct Value} (pre pre' : TracedAct B) (x : B) (go go' : B → TracedAct A) → ((z : World) (ds ds' : List ResolvedClosure) (n n' : Memory) → F z → L z ds n ds' n' → Quietly side pre x ds n) →
      ((ds : List ResolvedClosure) (n : Memory) → Silent pre' x ds n) → FirstIn (go x) part (go' x) → FirstIn (then_traced pre go) part (then_traced pre' go')
  first-silent pre pre' x go go' q q' p = record {
    rest = p.rest;
    rest' = p.rest';
    reads = λ z ds ds' n n' fr l. silent-reads go ds n (q z ds ds' n n' fr l) (p.reads z ds ds' n n' fr l);
    begins = λ ds n. silent-begins go' ds n (q' ds n) (p.begins ds n);
    alike = p.alike;
  }

  -- the read itself, and the part
  pub first-read : (go : Evaluator i after u side) (k : ℕ) → slice_get f.locals k ≡ Some (in_cell c) → (part : TracedAct Value) → FirstIn (resolved_step resolved_traces i go (at_node f (reading (of_local k)))) part part
  unfolding then_traced traced
  first-read go k here part = record {
    rest = λ v. traced (traces.gives v);
    rest' = λ v. traced (traces.gives v);
    reads = λ z ds ds' n n' fr l. reads_on (wants 1 ∷ []) refl (ap (λ o. (behind (wants 1 ∷ []) (reads_local resolved_traces o ds n).0, (reads_local resolved_traces o ds n).1)) here);
    begins = λ ds n. record { steps = []; quiet = refl; same = sym (given-again (part ds n).0.steps (part ds n).0.end (part ds n).1) };
    alike = λ z v fr. same-value i after u side v v refl;
  }

module _ (i after : ResolvedImage) (u : IsUnfolded i after) (side : Bool) (w0 w : World) (g0 : Context) (f f' : ResolvedFrame) (k c : ℕ) (fr : Frames i after u side w g0 f f') (here : slice_get f.locals k ≡ Some (in_cell c)) (unset : IsUnset w c) (early : w0.cells.limit ≤ c) (o : Onward w0 w) where
  abbrev g : Context
  g = with_local k a_nothing g0

  -- the frames once the cell is set
  pub frame-set : (v : World) (x : Value) → Onward w v → Frames i after u side (settled_in v c x) g f f'
  frame-set v x p =
      let a = frame-onward i u.gone u.named p fr in
      record { locals = all-set c k x a_nothing (unset-onward p c unset) here a.locals (as_nothing (in_cell c)); me = a.me; home = a.home; above = a.above; runs = a.runs; place = a.place }

  read-value : (m : Memory) (x : Value) → c < length m.cells → value_in_cell (with_cell m c x) c ≡ x
  read-value m x l = get_or-set_same m.cells c x nil_value l

  -- with the frames as they are then
  with-frame : {z : World} {x y : Came Value} → Frames i after u side z g f f' → Follows i u.gone u.named side Same z x y → Follows i u.gone u.named side (InFrame i after u side g f f') z x y
  with-frame a (both_give v o e l r) = both_give v o e l (r, frame-onward i u.gone u.named o a)
  with-frame a (both_return v o e l r) = both_return v o e l r
  with-frame a (both_fail e) = both_fail e
  with-frame a (stops_before s rest e) = stops_before s rest e
  with-frame a (stops_after s rest e) = stops_after s rest e

  -- what is done before once the value is stored, and what is done after
  pub first-follows : {act act' part : TracedAct Value} → FirstIn i after u side g f f' c act part act' → (ss : List Step) (x : End Value) (cs cs' : List ResolvedClosure) (m' : Memory) →
      Follows i u.gone u.named side Same w (record { steps = ss; end = x }, cs) (part cs' m') →
      Follows i u.gone u.named side (InFrame i after u side g f f') w0 (goes_on_traced ss x cs (λ a ds n. act ds (with_cell n c a))) (act' cs' m')
  first-follows {act = act} {act' = act'} {part = part} p ss x cs cs' m' h =
      let b = p.begins cs' m' in
      subst (λ y. Follows i u.gone u.named side (InFrame i after u side g f f') w0 (goes_on_traced ss x cs (λ a ds n. act ds (with_cell n c a))) y) (sym b.same)
      (both-behind i u.gone u.named side [] b.steps (sym b.quiet) (by h))
    where
      by : {x y : Came Value} → Follows i u.gone u.named side Same w x y →
          Follows i u.gone u.named side (InFrame i after u side g f f') w0 (goes_on_traced x.0.steps x.0.end x.1 (λ a ds n. act ds (with_cell n c a))) (goes_on_traced y.0.steps y.0.end y.1 p.rest')
      by (both_give {ss = ss} {ss' = ss'} {a = a} {b = b} {m = m} {m' = m'} {cs = cs} {cs' = cs'} v q e l r) =
          both-behind i u.gone u.named side ss ss' e (give (p.reads (settled_in v c a) cs cs' (with_cell m c a) m' (frame-set v a q) linked))
        where
          linked : Linked i u.gone u.named (settled_in v c a) cs (with_cell m c a) cs' m'
          linked = settled-linked i u.gone u.named c a (unset-onward q c unset) l

          there : value_in_cell (with_cell m c a) c ≡ b
          there = read-value m a (subst (λ n. c < n) l.cells.before (unset-onward q c unset).below) ∙ r

          give : Reads i after u side g f f' c act p.rest cs (with_cell m c a) → Follows i u.gone u.named side (InFrame i after u side g f f') w0 (act cs (with_cell m c a)) (p.rest' b cs' m')
          give (reads_short ts n ds s t z) = subst (λ y. Follows i u.gone u.named side (InFrame i after u side g f f') w0 y (p.rest' b cs' m')) (sym z)
              (stops_before s (told_in (p.rest' b cs' m').0.steps) (ap (λ es. es ++ told_in (p.rest' b cs' m').0.steps) t))
          give (reads_on ts t z) = subst (λ y. Follows i u.gone u.named side (InFrame i after u side g f f') w0 y (p.rest' b cs' m')) (sym z)
              (both-behind i u.gone u.named side ts [] t
              (subst (λ y. Follows i u.gone u.named side (InFrame i after u side g f f') w0 (p.rest y cs (with_cell m c a)) (p.rest' b cs' m')) (sym there)
              (earlier i u.gone u.named side (settled-onward w0 v c a early (onward-on o q))
              (with-frame (frame-set v a q) (p.alike (settled_in v c a) b (frame-set v a q) (settled_in v c a) cs cs' (with_cell m c a) m' (onward-at_once (settled_in v c a)) linked)))))
      by (both_return v q e l r) = both_return v (onward-on o q) e l r
      by (both_fail e) = both_fail e
      by (stops_before {ss = ss} {ss' = ss'} {m = m} {e = e} {cs = cs} {cs' = cs'} s rest t) = stopped-before i u.gone u.named side ss ss' m cs cs' s rest t e p.rest'
      by (stops_after {ss = ss} {ss' = ss'} {m = m} {e = e} {cs = cs} {cs' = cs'} s rest t) = stopped-after i u.gone u.named side ss ss' m cs cs' s rest t e (λ a ds n. act ds (with_cell n c a))
