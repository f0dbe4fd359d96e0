pub mod Ranks
pub mod PagesMoved
pub mod Rooms
pub mod Judged
pub mod Firsts
pub mod Chosen
pub mod Replacing
pub mod MovedIndexes
pub mod MoveCalls
pub mod DataOwners
pub mod Freshened
pub mod CleanedBlocks
pub mod BatchCopies
pub mod BatchPlaces
pub mod BatchNames
pub mod NamesTrimmed
pub mod BatchRenews
pub mod BatchRuns
pub mod BatchCalls
pub mod BatchDrops
pub mod BatchFinds
pub mod BatchEnds
pub mod Most
pub mod Cleanings
pub mod PlacesBy
pub mod IndexOut
pub mod EntryTurns
pub mod Programs
pub mod PartedPages
pub mod PartTurns
mod Freeing
mod Spared
mod Swaps
