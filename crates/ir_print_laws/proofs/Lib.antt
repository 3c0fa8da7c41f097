pub mod Joined
pub mod Tokens
pub mod Segments
pub mod Marks
pub mod NamesHere
pub mod TypesBack
pub mod MemoryBack
pub mod AddressesBack
pub mod ValuesBack
pub mod FlagsBack
pub mod OperationsBack
pub mod OperationsWhole
pub mod ListsBack
pub mod SwitchBack
pub mod AllocaBack
pub mod LongOperations
pub mod Between
pub mod Lists
pub mod CallsBack
pub mod GepBack
pub mod LinesBack
pub mod BlocksBack
pub mod FunctionsBack
pub mod InitsBack
pub mod ModuleBack
mod Digits
pub mod Named
mod Operands
mod Operations
pub mod Memory
mod Addresses
mod Functions
mod Same
pub mod Inits
mod Modules
mod Forms
mod ReadTokens
mod Kept
mod KeptWords
mod KeptValues
mod KeptInstructions
mod KeptModules
mod TreeWords
mod TreeInstructions
mod TreeModules
mod Inverting
mod Quoted
mod Typed
mod Builds
mod Symbols
mod ReadNames
mod ReadOperations
mod ReadFunctions
mod ReadInits
mod ReadModules
mod ManyCallsNames
mod Numbers
mod Lines
mod ManyCallsLists
mod Fits
mod Printed
mod Alone
mod Passing
pub mod OneModule
