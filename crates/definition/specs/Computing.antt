-- What computes with the definitions: the calls on rows alone, sample files, and the learners' mistakes. Nobody need believe these files:
-- what they say is proved, here or of the calls on tables.
pub mod OnRows
pub mod Samples
pub mod Learners
