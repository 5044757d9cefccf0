pub mod ValueView
pub mod AtomView
pub mod ViewView
pub mod ErrorView
pub mod EventView
pub mod OutcomeView
pub mod BindingView
pub mod StoreView
