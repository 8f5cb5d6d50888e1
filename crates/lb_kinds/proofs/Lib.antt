mod ScanLaws
mod ViewLaws
