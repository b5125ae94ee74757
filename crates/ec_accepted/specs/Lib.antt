pub mod Wide
pub mod FinenessLaws
pub mod FineClassesSound
pub mod Classes
pub mod FineClassesLaws
pub mod FineProgramsSound
pub mod FineProgramsLaws
pub mod Laws
