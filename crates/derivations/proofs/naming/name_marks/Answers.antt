use Rattle.std.proofs.Common.{◌≡◌, List, map, sym, subst, ◌∙◌, rules}
use Rattle.std.proofs.lemmas.List.{map-append, map-id}
use Rattle.std.proofs.lemmas.Iterator.Consumers.{YieldsList-end}
use Rattle.std.proofs.lemmas.Iterator.Adapters.{YieldsList-from_vec}
use Rattle.event_trees.proofs.Known.{Grows-none, Grows-twice}
use Rattle.derivations.specs.Signs.{Sign, sign_of}
use Rattle.derivations.specs.Numbered.{table_of}
use Rattle.derivations.specs.Named.{IsNamedOnce}
use Rattle.derivations.specs.declared.marks.Mark as program
use Rattle.derivations.proofs.NamedOnce.{none_named}
use Rattle.derivations.proofs.naming.name_marks.Goals as goal

pub loop-mark-init : goal.loop-mark-init
loop-mark-init c = record {
  named = none_named c.args.names.now _ (search rules) (search rules);
  grows = Grows-none c.args.names.now;
}

pub loop-mark-preserved : goal.loop-mark-preserved
loop-mark-preserved c =
    let l = c.loop-mark in
    record {
      named =
          subst (λ (all : List Sign). IsNamedOnce c.args.names.now all (table_of c.put_once.new.marks) c.put_once.new.names) (sym (map-append sign_of l.yielded _))
          (c.in_ok-put_once.ensures.put c.args.names.now (map sign_of l.yielded) l.invariant.named);
      grows = Grows-twice l.invariant.grows c.put_once.ensures.grows;
    }

pub returns-clause-named : goal.returns-clause-named
returns-clause-named c =
    let gives = c.into_iter-mark-iterator.ensures.into_iter_gives in
    let all = YieldsList-end (YieldsList-from_vec {s = c.into_iter-mark-iterator.result} c.args.all.items gives.0 (gives.1 ∙ c.args.all.ok.0)) c.loop-mark.yielded c.loop-mark.mark-iterator c.loop-mark.yielded_by c.next.result c.next.new.self c.in-None.is c.next.ensures.steps in
    let whole : c.loop-mark.yielded ≡ c.args.all.items = sym (map-id c.loop-mark.yielded) ∙ all.0 in
    subst (λ (ms : List program.Mark). IsNamedOnce c.args.names.now (map sign_of ms) (table_of c.loop-mark.marks) c.loop-mark.names) whole c.loop-mark.invariant.named
