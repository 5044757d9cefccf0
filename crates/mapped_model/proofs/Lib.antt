mod Tests
mod LookupsMapped
mod ValuesMapped
mod PrimitivesMapped
mod ShapesMapped
pub mod Objects
mod OwnShapes
mod Homes
mod StoresMapped
mod HeldActs
pub mod PrimitivesKeep
mod Everywhere
mod Suited
mod RunsMapped
mod Agreeing
mod Widened
mod MatchedByMaps
pub mod NodesBelow
mod ChangedLemmas
pub mod NamesFound
mod OwnResolved
pub mod NamesOfImagesHold
mod ChangedImageLemmas
pub mod RenamedVariableLemmas
