mod OnlyLaws
mod SnapshotLaws
