pub mod Zips
pub mod TextsTold
mod Declarations
mod NewNames
mod ClassesAfter
pub mod OutsideAfter
mod ScopesAfter
mod TreesAfter
pub mod Unnamed
mod Undeclared
pub mod MeaningsAfter
mod NamesUnused
pub mod Readiness
mod ImagesAfter
pub mod NamesApart
pub mod SentAnew
mod FreshSelector
pub mod RenamedSelector
pub mod VariableClasses
mod VariableOutside
mod VariableMeanings
mod VariableImages
pub mod ChainFacts
mod SharedVariable
mod OwnVariable
mod ClassesBelow
pub mod NodesOfImages
pub mod OwnMethods
pub mod GoodNames
pub mod OutsideLoose
