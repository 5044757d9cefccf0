-- Control sends, whose literal blocks are run in place and are no closures.
use Rattle.std.specs.Prelude.{ℕ, zero, suc, Bool, true, false, not, ◌==◌, ◌&&◌, List, [], ◌∷◌, option_map, unwrap_or}
use Rattle.tree_model.specs.Tree.{TreeOf, var, literal, send, cascade, assign, block, brace, return, TreesOf, no_trees, more_trees}
use Rattle.tree_model.specs.Path.{count, child}
use Rattle.scope_model.specs.declared.local.ControlForm.{ControlForm}
use Rattle.scope_model.specs.declared.local.ControlForm.TheVariants.{OneBlock, TwoBlocks, Loop, NoControl}

-- there is no parameter
abbrev pub is_empty : {N : Type 0} → List N → Bool
is_empty [] = true
is_empty (n ∷ ns) = false

-- a literal block without parameters
abbrev pub is_plain_block : {N : Type 0} → TreeOf N → Bool
is_plain_block (var n) = false
is_plain_block (literal l) = false
is_plain_block (send r s args) = false
is_plain_block (cascade r ms) = false
is_plain_block (assign n t) = false
is_plain_block (block ps ts ss e) = is_empty ps
is_plain_block (brace ts) = false
is_plain_block (return t) = false

-- each of the trees is a literal block without parameters
abbrev pub are_plain_blocks : {N : Type 0} → TreesOf N → Bool
are_plain_blocks no_trees = true
are_plain_blocks (more_trees t ts) = is_plain_block t && are_plain_blocks ts

-- receiver and arguments are what the form demands
abbrev pub meets : {N : Type 0} → ControlForm → TreeOf N → TreesOf N → Bool
meets OneBlock r args = count args == 1 && are_plain_blocks args
meets TwoBlocks r args = count args == 2 && are_plain_blocks args
meets Loop r args = is_plain_block r && (count args == 1 && are_plain_blocks args)
meets NoControl r args = false

-- a selector that demands its receiver to be a block
abbrev pub is_loop : ControlForm → Bool
is_loop OneBlock = false
is_loop TwoBlocks = false
is_loop Loop = true
is_loop NoControl = false

-- a control send: a send, whatever its receiver, of a control selector with the literal blocks that it demands
abbrev pub is_control : {N : Type 0} → (N → ControlForm) → TreeOf N → Bool
is_control form (var n) = false
is_control form (literal l) = false
is_control form (send r s args) = meets (form s) r args
is_control form (cascade r ms) = false
is_control form (assign n t) = false
is_control form (block ps ts ss e) = false
is_control form (brace ts) = false
is_control form (return t) = false

-- whether one step from a node leads to a literal block of a control send
abbrev pub steps_in_place : {N : Type 0} → (N → ControlForm) → TreeOf N → ℕ → Bool
steps_in_place form (var n) k = false
steps_in_place form (literal l) k = false
steps_in_place form (send r s args) zero = is_loop (form s) && meets (form s) r args
steps_in_place form (send r s args) (suc k) = meets (form s) r args
steps_in_place form (cascade r ms) k = false
steps_in_place form (assign n t) k = false
steps_in_place form (block ps ts ss e) k = false
steps_in_place form (brace ts) k = false
steps_in_place form (return t) k = false

-- a literal block
abbrev pub is_block : {N : Type 0} → TreeOf N → Bool
is_block (var n) = false
is_block (literal l) = false
is_block (send r s args) = false
is_block (cascade r ms) = false
is_block (assign n t) = false
is_block (block ps ts ss e) = true
is_block (brace ts) = false
is_block (return t) = false

-- whether a path leads to a closure, a literal block that is not one of a control send; `in_place` says that the node at the empty path is one of a control send if it is a block
abbrev pub is_closure_at : {N : Type 0} → (N → ControlForm) → (in_place : Bool) → TreeOf N → List ℕ → Bool
is_closure_at form in_place t [] = is_block t && not in_place
is_closure_at form in_place t (k ∷ ks) = unwrap_or (option_map (λ c. is_closure_at form (steps_in_place form t k) c ks) (child t k)) false
