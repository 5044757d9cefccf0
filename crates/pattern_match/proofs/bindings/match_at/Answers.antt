use Rattle.std.proofs.Common.{List, [], map, Vec, Global, option_map, sym, ap, ◌∙◌}
use Rattle.pattern_model.specs.MatchTree.{bindings_of}
use Rattle.pattern_match.specs.declared.standing.Place.{Place}
use Rattle.pattern_match.specs.Words.{number_words}
use Rattle.pattern_match.specs.Gathering.{place_of}
use Rattle.pattern_match.specs.Bound.{held_of}
use Rattle.pattern_match.proofs.FirstBindings.{no_bindings, their_bindings}
use Rattle.pattern_match.proofs.bindings.match_at.Goals as goal

pub returns-in-None : goal.returns-in-None
returns-in-None c = no_bindings c.args.names.now c.args.pattern.now c.args.node.now (ap (option_map (λ (ps : Vec Place Global). map place_of ps.items)) (sym c.in-None.is) ∙ c.in_ok-found.ensures)

pub returns-in_ok-bindings-in-Some : goal.returns-in_ok-bindings-in-Some
returns-in_ok-bindings-in-Some c =
    their_bindings c.args.names.now c.args.pattern.now c.args.node.now c.in-Some.places.items (map held_of c.in_ok-bindings-in-Some.bindings.items)
    (ap (option_map (λ (ps : Vec Place Global). map place_of ps.items)) (sym c.in-Some.is) ∙ c.in_ok-found.ensures)
    (c.in_ok-bindings-in-Some.ensures ∙ ap (λ (ps : List Place). bindings_of (number_words []) (map place_of ps)) c.deref.ensures.value)
