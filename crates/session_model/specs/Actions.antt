-- What lines of a script ask for, beside undo and redo (Roberts 1999).
use Rattle.std.specs.Prelude.{List}
use Rattle.command_model.specs.Commands.{CommandOf}

-- a single command, or a composite, which is several of them
pub data ActionOf (N : Type 0) : Type 0 where
  Single : CommandOf N → ActionOf N
  -- C gets a getter and a setter of its instance variable x, with the setter's selector and the name of its parameter
  CreateAccessors : (c x setter parameter : N) → ActionOf N
  -- D comes under P and each class of the list under D, and what instance variables they all have goes up to D
  ExtractSuperclass : (d p : N) → (under : List N) → ActionOf N
  -- the instance variable x of C goes up, and with it the instance methods of C that name x
  PushUpWithMethods : (c x : N) → ActionOf N
