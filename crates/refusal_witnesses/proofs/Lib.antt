mod Lists
pub mod NamesShown
mod ClassesShown
mod MethodsShown
pub mod ParametersShown
mod PartsShown
mod InlinesShown
mod TemporariesShown
pub mod AllShown
pub mod OneLine
pub mod Alls
pub mod Leading
pub mod LinesThere
pub mod NamesLined
pub mod PartsLined
pub mod MessagesLined
pub mod AllLined
