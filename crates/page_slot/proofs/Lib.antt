pub mod SlotSpanLengths
pub mod TurnLaws
pub mod Behind
pub mod Join
pub mod SectorLaws
pub mod SlotSectorsLengths
pub mod SlotLaws
pub mod SlotLinesLengths
